use Rattle.zarrs_check.proofs.GroupsAbove.{groups_left}
use Rattle.zarrs_cli.proofs.AllAbove.{AreAboveBut}
use Rattle.zarrs_cli.proofs.folder.paths_above.Given as goal

-- each path above is among these, or is the next one or above that
abbrev pub invariant-loop-above : goal.invariant-loop-above
invariant-loop-above l = AreAboveBut l.fn.base l.paths.items l.above

-- the paths that are left
abbrev pub decreases-loop-above : goal.decreases-loop-above
decreases-loop-above l = groups_left l.above
