use Rattle.std.proofs.Common.{◌≡◌, ◌++◌, ◌∙◌, sym, ap, lit<}
use Rattle.std.proofs.lemmas.Str.Pattern.{starts_char}
use Rattle.zarrs_path.specs.Paths.{names_text}
use Rattle.zarrs_path.proofs.Prefixes.{below_is}
use Rattle.zarrs_path.proofs.node_path.NodePath.is_below.Goals as goal

pub returns-in-Some-clause-below : goal.returns-in-Some-clause-below
returns-in-Some-clause-below c =
    let found = c.in-Some.ensures.cases in
    let cut : names_text c.args.self.now ≡ names_text c.args.base.now ++ c.in-Some.rest.now =
    sym c.slashed.ensures.text ∙ (found.1.1 ∙ (ap (λ t. c.slashed-2.result.now ++ t) (sym found.2) ∙ ap (λ t. t ++ c.in-Some.rest.now) c.slashed-2.ensures.text)) in
    below_is c.args.self.now c.args.base.now c.in-Some.rest.now c.starts_with.result c.slashed.ensures.valid c.slashed-2.ensures.valid cut (starts_char 47 c.in-Some.rest.now c.starts_with.result c.starts_with.ensures.cases (lit< tt) (lit< tt))
