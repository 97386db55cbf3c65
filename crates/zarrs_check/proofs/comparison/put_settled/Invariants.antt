use Rattle.std.proofs.Common.{List, ◌≡◌, ◌++◌}
use Rattle.std.specs.Vec.Iter.{into_iter_items}
use Rattle.zarrs_meaning.specs.Exists.{HasNodeKey}
use Rattle.zarrs_check.specs.StepsOfChecks.{HasBad}
use Rattle.zarrs_check.specs.StepsOfComparisons.{AreSettled}
use Rattle.zarrs_check.specs.declared.finding.Finding.{Finding}
use Rattle.zarrs_check.proofs.comparison.put_settled.Given as goal

-- the findings of before and those that are left are all, and what became of those of before stands behind the others
abbrev pub invariant-loop-finding : goal.invariant-loop-finding
invariant-loop-finding g l = (l.yielded ++ into_iter_items l.finding-iterator ≡ l.fn.found.items)
    × ((left : List Finding) × (l.told.items ≡ l.initial.told.items ++ left) × AreSettled (HasBad l.bad) (HasNodeKey (g.S.Store.contents l.storage)) l.yielded left)
