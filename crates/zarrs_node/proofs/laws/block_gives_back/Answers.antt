use Rattle.zarrs_node.proofs.Inverse as law
use Rattle.zarrs_node.proofs.laws.block_gives_back.Goals as goal

pub returns : goal.returns
returns c = law.block_gives_back
