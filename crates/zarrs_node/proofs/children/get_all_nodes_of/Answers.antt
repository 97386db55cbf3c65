use Rattle.zarrs_node.proofs.walk.SinkSteps.{listed_pairs, ascending_pairs}
use Rattle.zarrs_node.proofs.children.get_all_nodes_of.Goals as goal

pub returns-clause-nodes : goal.returns-clause-nodes
returns-clause-nodes g c = listed_pairs _ _ _ _ c.in_ok-ignored.ensures.takes c.new-all.ensures.items

pub returns-clause-ascending : goal.returns-clause-ascending
returns-clause-ascending g c = ascending_pairs _ _ _ _ c.in_ok-ignored.ensures.takes c.new-all.ensures.items
