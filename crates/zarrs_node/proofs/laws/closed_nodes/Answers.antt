use Rattle.zarrs_node.proofs.LawProofs as law
use Rattle.zarrs_node.proofs.laws.closed_nodes.Goals as goal

pub returns : goal.returns
returns c = law.closed_nodes
