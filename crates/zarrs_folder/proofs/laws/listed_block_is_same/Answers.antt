use Rattle.zarrs_folder.proofs.Openings as law
use Rattle.zarrs_folder.proofs.laws.listed_block_is_same.Goals as goal

pub returns : goal.returns
returns c = law.listed_block_is_same
