use Rattle.std.proofs.Common.{[], ◌∷◌, ◌++◌, take, sym, subst, arith}
use Rattle.zarrs_check.specs.StepsOfOrphans.{AreOrphansAmong}
use Rattle.zarrs_check.proofs.DocumentCounts.{orphans_same, orphans_more, orphans_turn}
use Rattle.zarrs_check.proofs.orphans.orphans_of.Goals as goal
use Rattle.zarrs_check.proofs.orphans.orphans_of.Goals.{then-count-gt0+in_ok-try_clone+in_ok-push, else-count-gt0}

pub loop-path-preserved : goal.loop-path-preserved
loop-path-preserved g c =
    let s = g.S.Store.contents c.args.storage.now in
    let l = c.loop-path in
    let ps = c.args.ignored.now in
    let before = take l.path-index ps in
    let p = c.path-item.result in
    let n = c.in_ok-count.count in
    let count = c.in_ok-count.ensures.ok in
    let are : AreOrphansAmong s (before ++ p ∷ []) c.if-count-gt0.orphans.items = elim c.if-count-gt0.branch [
      | then-count-gt0+in_ok-try_clone+in_ok-push w ↦ subst (λ v. AreOrphansAmong s (before ++ p ∷ []) v.items) (sym w.orphans-is)
          (orphans_more s before p w.in_ok-try_clone.field-0 n l.orphans.items w.push.new.self.items count (λ e. omega (arith, e, w.if-count-gt0.true)) w.in_ok-try_clone.ensures.ok w.in_ok-push.ensures.items l.invariant)
      | else-count-gt0 w ↦ subst (λ v. AreOrphansAmong s (before ++ p ∷ []) v.items) (sym w.orphans-is) (orphans_same s before p n l.orphans.items count (omega (arith, w.if-count-gt0.false)) l.invariant)
    ] in
    orphans_turn s ps l.path-index p c.if-count-gt0.orphans.items c.loop-path-test.true c.path-item.is are
