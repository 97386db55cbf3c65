use Rattle.std.proofs.Common.{◌≡◌, [], ◌∷◌, ◌++◌, ◌∙◌, sym, ap, subst, Some, None, lit<}
use Rattle.std.proofs.lemmas.Str.Pattern.{strip_prefix_char}
use Rattle.zarrs_store.specs.Segments.{segments_of, IsKeyText}
use Rattle.zarrs_path.specs.Paths.{names_text}
use Rattle.zarrs_path.proofs.KeyTexts.{below_text, below_segments, root_names}
use Rattle.zarrs_path.proofs.key.key_below.Goals as goal

pub new_unchecked-requires : goal.new_unchecked-requires
new_unchecked-requires c =
    let is : names_text c.args.path.now ≡ 47 ∷ c.in-Some.names.now = sym c.slashed-base.ensures.text ∙ strip_prefix_char 47 c.slashed-base.result.now (Some c.in-Some.names) c.in-Some.ensures.cases (lit< tt) in
    subst IsKeyText (sym c.in_ok-text-in-Some.ensures) (below_text c.args.path.now c.in-Some.names.now c.args.rest.now c.slashed-base.ensures.valid is c.requires)

pub returns-in_ok-text-in-Some : goal.returns-in_ok-text-in-Some
returns-in_ok-text-in-Some c =
    let is : names_text c.args.path.now ≡ 47 ∷ c.in-Some.names.now = sym c.slashed-base.ensures.text ∙ strip_prefix_char 47 c.slashed-base.result.now (Some c.in-Some.names) c.in-Some.ensures.cases (lit< tt) in
    c.new_unchecked.ensures.segments ∙ (ap segments_of c.in_ok-text-in-Some.ensures ∙ below_segments c.args.path.now c.in-Some.names.now c.args.rest.now c.slashed-base.ensures.valid is c.requires)

pub returns-in_ok-text-in-None : goal.returns-in_ok-text-in-None
returns-in_ok-text-in-None c =
    let root : c.args.path.now ≡ [] = root_names c.args.path.now (λ rest e. strip_prefix_char 47 c.slashed-base.result.now None c.in-None.ensures.cases (lit< tt) rest (c.slashed-base.ensures.text ∙ e)) in
    c.new_unchecked-in-None.ensures.segments ∙ (ap segments_of c.in_ok-text-in-None.ensures.ok ∙ ap (λ p. p ++ segments_of c.args.rest.now) (sym root))
