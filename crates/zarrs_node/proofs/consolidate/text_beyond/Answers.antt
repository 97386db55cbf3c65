use Rattle.std.proofs.Common.{◌≡◌, ◌∷◌, ◌++◌, ◌∙◌, sym, ap, refl, lit<}
use Rattle.std.proofs.lemmas.Str.Pattern.{strip_prefix_char}
use Rattle.zarrs_path.specs.Paths.{names_text}
use Rattle.zarrs_path.proofs.PathTexts.{slashed-append}
use Rattle.zarrs_path.proofs.ByteTests.{without_slash_is}
use Rattle.zarrs_node.proofs.blocks.BlockTexts.{rest_is}
use Rattle.zarrs_node.proofs.consolidate.text_beyond.Goals as goal

pub returns-in-Some-clause-text : goal.returns-in-Some-clause-text
returns-in-Some-clause-text c =
    let found = c.in-Some.ensures.cases in
    let rest = c.in-Some.rest.now in
    let cut : names_text c.args.path.now ≡ names_text c.args.base.now ++ rest =
    sym c.slashed.ensures.text ∙ found.1.1 ∙ ap (λ t. c.slashed-2.result.now ++ t) (sym found.2) ∙ ap (λ t. t ++ rest) c.slashed-2.ensures.text in
    rest_is c.args.base.now c.args.path.now rest c.unwrap_or.result.now c.requires cut
    (without_slash_is rest c.strip_prefix-in-Some.result c.in-Some.rest c.unwrap_or.result (strip_prefix_char 47 rest c.strip_prefix-in-Some.result c.strip_prefix-in-Some.ensures.cases (lit< tt)) refl c.unwrap_or.ensures)

pub returns-in-None-clause-text : goal.returns-in-None-clause-text
returns-in-None-clause-text c =
    let below = c.requires in
    absurd (c.in-None.ensures.cases (names_text (below.0 ∷ below.1))
    (c.slashed.ensures.text ∙ ap names_text below.2 ∙ slashed-append c.args.base.now (below.0 ∷ below.1) ∙ ap (λ t. t ++ names_text (below.0 ∷ below.1)) (sym c.slashed-2.ensures.text)))
