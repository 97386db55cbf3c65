use Rattle.zarrs_check.proofs.LawProofs.{nothing_bad_is_told}
use Rattle.zarrs_check.proofs.laws.nothing_bad_is_told.Goals as goal

pub returns : goal.returns
returns c = nothing_bad_is_told
