use Rattle.zarrs_check.proofs.GroupsAbove.{nothing_is_above_root}
use Rattle.zarrs_check.proofs.laws.nothing_is_above_root.Goals as goal

pub returns : goal.returns
returns c = nothing_is_above_root
