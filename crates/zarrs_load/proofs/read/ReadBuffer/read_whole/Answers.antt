use Rattle.std.proofs.Common.{arith}
use Rattle.zarrs_load.proofs.WholeInput.{whole_at_nothing}
use Rattle.zarrs_load.proofs.read.ReadBuffer.read_whole.Goals as goal

pub returns-then-count-eq0-clause-ok : goal.returns-then-count-eq0-clause-ok
returns-then-count-eq0-clause-ok g c =
    whole_at_nothing _ _ _ _ _ _ c.loop-turn.invariant.taken (c.in-Ok.ensures.bytes) c.if-count-eq0.true (omega arith)
