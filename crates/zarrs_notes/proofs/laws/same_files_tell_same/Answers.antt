use Rattle.zarrs_notes.proofs.LawProofs.{notes_same}
use Rattle.zarrs_notes.proofs.laws.same_files_tell_same.Goals as goal

pub returns : goal.returns
returns c = notes_same
