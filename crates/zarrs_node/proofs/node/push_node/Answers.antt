use Rattle.zarrs_node.proofs.Trees.{pushed}
use Rattle.zarrs_node.proofs.node.push_node.Goals as goal

pub returns : goal.returns
returns c = pushed c.args.nodes.now.items c.push.new.self.items c.new_with_metadata.result _ c.in_ok-push.ensures.items c.new_with_metadata.ensures.tree
