use Rattle.std.proofs.Common.{◌≡◌, ◌-◌, length, drop, sym, ap, subst, ◌∙◌, arith}
use Rattle.std.proofs.lemmas.List.{take_all, length-drop}
use Rattle.zarrs_node.specs.Order.{Ascend}
use Rattle.zarrs_hierarchy.specs.StepsOfHierarchies.{pairs_behind}
use Rattle.zarrs_hierarchy.proofs.Places.{behind_place, behind_gap}
use Rattle.zarrs_hierarchy.proofs.hierarchy.Hierarchy.behind.Goals as goal
use Rattle.zarrs_hierarchy.proofs.hierarchy.Hierarchy.behind.Goals.{in-Ok, in-Err}

pub returns-clause-behind : goal.returns-clause-behind
returns-clause-behind c =
    let xs = c.deref.result.now in
    let ys = c.as_slice.result.now in
    let p = c.args.path.now in
    let start = c.match-place_of.start in
    let up = subst Ascend (sym c.deref.ensures.value) c.self.invariant in
    let begins : drop start xs ≡ pairs_behind p xs = elim c.match-place_of.branch [
      | in-Ok w ↦ behind_place xs p w.in-Ok.place start (omega (arith, w.start-is)) up w.in-Ok.ensures.found
      | in-Err w ↦ ap (λ n. drop n xs) w.start-is ∙ behind_gap xs p w.in-Err.gap w.in-Err.ensures.absent
    ] in
    let long = length-drop start ys in
    take_all (length ys - start) (drop start ys) (omega (arith, long)) ∙ ap (drop start) (c.as_slice.ensures.value ∙ sym c.deref.ensures.value) ∙ begins ∙ ap (pairs_behind p) (c.deref.ensures.value ∙ c.self.view_is)
