use Rattle.std.proofs.Common.{take, Contains}
use Rattle.zarrs_meaning.proofs.exists.holds.Given as goal

abbrev pub invariant-loop-held : goal.invariant-loop-held
invariant-loop-held l = Contains (take l.held-index l.keys) l.key → ⊥
