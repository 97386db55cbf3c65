use Rattle.std.proofs.Common.{take}
use Rattle.zarrs_check.specs.StepsOfOrphans.{AreOrphansAmong}
use Rattle.zarrs_check.proofs.orphans.orphans_of.Given as goal

-- those of before with paths below are found
abbrev pub invariant-loop-path : goal.invariant-loop-path
invariant-loop-path g l = AreOrphansAmong (g.S.Store.contents l.storage) (take l.path-index l.ignored) l.orphans.items
