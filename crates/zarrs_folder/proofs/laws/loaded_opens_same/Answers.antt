use Rattle.zarrs_folder.proofs.Openings as law
use Rattle.zarrs_folder.proofs.laws.loaded_opens_same.Goals as goal

pub returns : goal.returns
returns c = law.loaded_opens_same
