use Rattle.std.proofs.Common.{◌∷◌, length}
use Rattle.zarrs_check.proofs.UnderWay.{IsOnTheWay}
use Rattle.zarrs_check.proofs.comparison.Comparison.take.Given as goal

abbrev pub invariant-loop-entry : goal.invariant-loop-entry
invariant-loop-entry l = IsOnTheWay l.initial.self (λ ns. (l.path, l.metadata) ∷ ns) l.self

abbrev pub decreases-loop-entry : goal.decreases-loop-entry
decreases-loop-entry l = length l.self.entries.items
