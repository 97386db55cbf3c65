use Rattle.std.specs.Prelude.{IfSome}
use Rattle.zarrs_check.specs.StepsOfBlocksAbove.{AreFoundBelow, IsPartOf}
use Rattle.zarrs_check.proofs.GroupsAbove.{groups_left}
use Rattle.zarrs_check.proofs.blocks_above.check_above.Given as goal

-- what is told is told of the groups below the next one, and what is known of the store is what it has from the path on
abbrev pub invariant-loop-above : goal.invariant-loop-above
invariant-loop-above g l = AreFoundBelow (g.S.Store.contents l.storage) l.version l.path l.above l.found.items × IfSome l.part (IsPartOf (g.S.Store.contents l.storage) l.version l.path)

-- the groups that are left
abbrev pub decreases-loop-above : goal.decreases-loop-above
decreases-loop-above g l = groups_left l.above
