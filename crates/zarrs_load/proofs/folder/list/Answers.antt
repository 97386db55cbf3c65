use Rattle.std.proofs.Common.{arith}
use Rattle.zarrs_load.proofs.folder.list.Goals as goal

pub loop-entry-preserved : goal.loop-entry-preserved
loop-entry-preserved g c = record {
  files = λ all. c.in_ok-take-in-Ok-entry.ensures.ok (c.loop-entry.invariant.files all);
  fewer = omega (arith, c.in_ok-take-in-Ok-entry.ensures.fewer, c.loop-entry.invariant.fewer);
}
