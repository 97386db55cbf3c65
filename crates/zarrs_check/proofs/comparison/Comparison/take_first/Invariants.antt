use Rattle.std.proofs.Common.{◌≡◌, ◌++◌, drop, List}
use Rattle.zarrs_meaning.specs.Meaning.{Pair}
use Rattle.zarrs_check.specs.StepsOfComparisons.{IsNextOf}
use Rattle.zarrs_check.proofs.comparison.Comparison.take_first.Given as goal

-- the nodes before the index were compared, and the group is the same
abbrev pub invariant-loop-path : goal.invariant-loop-path
invariant-loop-path l = (l.self.group ≡ l.fn.self.group) × (done : List Pair) × (l.nodes ≡ done ++ drop l.path-index l.nodes) × IsNextOf l.fn.self done l.self
