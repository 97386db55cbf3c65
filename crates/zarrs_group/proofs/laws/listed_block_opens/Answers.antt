use Rattle.zarrs_group.proofs.StoredBlocks as law
use Rattle.zarrs_group.proofs.laws.listed_block_opens.Goals as goal

pub returns : goal.returns
returns c = law.listed_block_opens
