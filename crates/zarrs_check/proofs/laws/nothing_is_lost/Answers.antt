use Rattle.zarrs_check.proofs.LostPaths.{nothing_is_lost}
use Rattle.zarrs_check.proofs.laws.nothing_is_lost.Goals as goal

pub returns : goal.returns
returns c = nothing_is_lost
