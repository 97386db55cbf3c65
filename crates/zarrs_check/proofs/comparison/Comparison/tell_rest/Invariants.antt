use Rattle.std.proofs.Common.{[], length}
use Rattle.zarrs_check.proofs.UnderWay.{IsOnTheWay}
use Rattle.zarrs_check.proofs.comparison.Comparison.tell_rest.Given as goal

-- some entries were told and passed
abbrev pub invariant-loop-entry : goal.invariant-loop-entry
invariant-loop-entry l = IsOnTheWay l.fn.self (λ ns. []) l.self

abbrev pub decreases-loop-entry : goal.decreases-loop-entry
decreases-loop-entry l = length l.self.entries.items
