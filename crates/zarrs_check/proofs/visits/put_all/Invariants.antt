use Rattle.std.proofs.Common.{◌≡◌, ◌++◌}
use Rattle.std.specs.Vec.Iter.{into_iter_items}
use Rattle.zarrs_check.specs.StepsOfVisits.{named_findings}
use Rattle.zarrs_check.proofs.visits.put_all.Given as goal

-- the findings of before and those that are left are all, and those of before were put behind the others
abbrev pub invariant-loop-finding : goal.invariant-loop-finding
invariant-loop-finding l = (l.yielded ++ into_iter_items l.finding-iterator ≡ l.fn.found.items) × (l.told.items ≡ l.fn.told.items ++ named_findings l.path l.yielded)
