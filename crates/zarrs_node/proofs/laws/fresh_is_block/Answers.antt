use Rattle.zarrs_node.proofs.blocks.Current as law
use Rattle.zarrs_node.proofs.laws.fresh_is_block.Goals as goal

pub returns : goal.returns
returns c = law.fresh_is_block
