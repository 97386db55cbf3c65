use Rattle.std.proofs.Common.{◌≡◌, length}
use Rattle.zarrs_check.specs.StepsOfTaking.{Closes}
use Rattle.zarrs_check.proofs.comparisons.Comparisons.close.Given as goal

abbrev pub invariant-loop-place : goal.invariant-loop-place
invariant-loop-place g l = Closes l.fn.self l.path l.self × (l.self.count ≡ l.fn.self.count) × (l.self.outcome ≡ l.fn.self.outcome) × (l.self.storage.now ≡ l.fn.self.storage.now)

abbrev pub decreases-loop-place : goal.decreases-loop-place
decreases-loop-place g l = length l.self.above.items
