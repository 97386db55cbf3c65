use Rattle.zarrs_folder.proofs.Openings as law
use Rattle.zarrs_folder.proofs.laws.block_opens_same.Goals as goal

pub returns : goal.returns
returns c = law.block_opens_same
