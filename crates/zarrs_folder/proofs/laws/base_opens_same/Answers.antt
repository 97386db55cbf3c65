use Rattle.zarrs_folder.proofs.Openings as law
use Rattle.zarrs_folder.proofs.laws.base_opens_same.Goals as goal

pub returns : goal.returns
returns c = law.base_opens_same
