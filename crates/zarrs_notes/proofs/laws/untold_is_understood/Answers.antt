use Rattle.zarrs_notes.proofs.LawProofs.{untold_is_understood}
use Rattle.zarrs_notes.proofs.laws.untold_is_understood.Goals as goal

pub returns : goal.returns
returns c = untold_is_understood
