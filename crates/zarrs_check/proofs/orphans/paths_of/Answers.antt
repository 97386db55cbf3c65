use Rattle.std.proofs.Common.{◌∷◌, [], ◌++◌, subst, sym, ap, ◌∙◌, append-nil, append_assoc}
use Rattle.std.specs.Vec.Iter.{into_iter_items}
use Rattle.zarrs_check.specs.StepsOfOrphans.{IsKeyedPath, AreKeyedBelow}
use Rattle.zarrs_check.proofs.DocumentCounts.{keyed_same, keyed_more}
use Rattle.zarrs_check.proofs.SurveyFaults.{none_left}
use Rattle.zarrs_check.proofs.orphans.paths_of.Goals as goal
use Rattle.zarrs_check.proofs.orphans.paths_of.Goals.{in-Some-2+in_ok-push, in_default}

pub loop-key-preserved : goal.loop-key-preserved
loop-key-preserved c =
    let l = c.loop-key in
    let key = c.in-Some.key in
    let rest = into_iter_items c.next.new.self in
    let p = c.args.path.now in
    let at = c.in_ok-node.ensures in
    let are : AreKeyedBelow (l.yielded ++ key ∷ []) p c.match-branch-2.paths.items = elim c.match-branch-2.branch [
      | in-Some-2+in_ok-push w ↦ keyed_more l.yielded key p l.paths.items c.match-branch-2.paths.items w.in-Some-2.node (subst (IsKeyedPath p key) w.in-Some-2.is at) (ap (λ v. v.items) w.paths-is ∙ w.in_ok-push.ensures.items) l.invariant.1
      | in_default w ↦ subst (λ v. AreKeyedBelow (l.yielded ++ key ∷ []) p v.items) (sym w.paths-is) (keyed_same l.yielded key p l.paths.items (subst (IsKeyedPath p key) w.in_default.is at) l.invariant.1)
    ] in (
      append_assoc l.yielded (key ∷ []) rest ∙ (ap (λ xs. l.yielded ++ xs) (sym c.in-Some.ensures.steps.0) ∙ l.invariant.0),
      are,
    )

pub returns : goal.returns
returns c =
    let l = c.loop-key in
    let empty = none_left _ _ l.key-iterator.rest.ok.0 c.in-None.ensures.steps.0 in
    subst (λ xs. AreKeyedBelow xs c.args.path.now l.paths.items) (sym (append-nil l.yielded) ∙ ap (λ xs. l.yielded ++ xs) (sym empty) ∙ l.invariant.0) l.invariant.1
