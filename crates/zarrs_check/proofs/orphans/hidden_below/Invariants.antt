use Rattle.std.proofs.Common.{take}
use Rattle.zarrs_check.specs.Orphans.{AreHidden}
use Rattle.zarrs_check.proofs.orphans.hidden_below.Given as goal

-- those of before have their numbers
abbrev pub invariant-loop-path : goal.invariant-loop-path
invariant-loop-path g l = AreHidden (g.S.Store.contents l.storage) (take l.path-index l.bad) l.hidden.items
