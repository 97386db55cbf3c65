use Rattle.std.proofs.Common.{◌≡◌, List, get_or, refl, sym, ap, ◌∙◌, Equal}
use Rattle.zarrs_path.proofs.LawProofs.{equal_order}
use Rattle.zarrs_path.specs.Paths.{path_cmp}
use Rattle.zarrs_meaning.specs.Meaning.{Pair}
use Rattle.zarrs_check.proofs.UnderWay.{first_behind, is_greater, is_equal}
use Rattle.zarrs_check.proofs.comparison.Comparison.next_turn.Goals as goal

pub returns-then-eq-clause-turn : goal.returns-then-eq-clause-turn
returns-then-eq-clause-turn c = (refl, first_behind c.args.path.now c.in-Some.first.now _ c.in-Some.ensures.lookup (sym c.cmp-order.ensures ∙ is_greater c.cmp-order.result c.if-eq.ensures))

pub returns-in-Some-2-clause-turn : goal.returns-in-Some-2-clause-turn
returns-in-Some-2-clause-turn c =
    let first = c.in-Some.first.now in
    let same : first ≡ c.in-Some-pop_front.entry = c.in-Some.ensures.lookup ∙ ap (λ (es : List Pair). get_or es 0 first) c.in-Some-pop_front.ensures.items in
    let level : path_cmp first.0 c.args.path.now ≡ Equal = sym c.cmp-order.ensures ∙ is_equal c.cmp-order.result c.if-eq.ensures c.if-eq-2.ensures in
    (c.in-Some-pop_front.ensures.items, sym (ap (λ (e : Pair). e.0) same) ∙ (equal_order first.0 c.args.path.now).0 level)
