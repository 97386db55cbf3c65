use Rattle.zarrs_node.proofs.blocks.ListedBlocks as law
use Rattle.zarrs_node.proofs.laws.listed_block_stays.Goals as goal

pub returns : goal.returns
returns c = law.listed_block_stays
