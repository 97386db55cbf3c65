use Rattle.zarrs_node.proofs.blocks.ListedBlocks as law
use Rattle.zarrs_node.proofs.laws.one_listed_block.Goals as goal

pub returns : goal.returns
returns c = law.one_listed_block
