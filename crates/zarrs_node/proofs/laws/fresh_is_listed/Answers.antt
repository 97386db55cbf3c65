use Rattle.zarrs_node.proofs.blocks.ListedBlocks as law
use Rattle.zarrs_node.proofs.laws.fresh_is_listed.Goals as goal

pub returns : goal.returns
returns c = law.fresh_is_listed
