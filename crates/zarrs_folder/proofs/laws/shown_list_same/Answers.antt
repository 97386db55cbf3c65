use Rattle.zarrs_folder.proofs.Openings as law
use Rattle.zarrs_folder.proofs.laws.shown_list_same.Goals as goal

pub returns : goal.returns
returns c = law.shown_list_same
