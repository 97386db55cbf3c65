use Rattle.zarrs_folder.proofs.Openings as law
use Rattle.zarrs_folder.proofs.laws.opened_answer_same.Goals as goal

pub returns : goal.returns
returns c = law.opened_answer_same
