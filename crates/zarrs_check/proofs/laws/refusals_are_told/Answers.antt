use Rattle.zarrs_check.proofs.LawProofs.{refusals_are_told}
use Rattle.zarrs_check.proofs.laws.refusals_are_told.Goals as goal

pub returns : goal.returns
returns c = refusals_are_told
