use Rattle.zarrs_node.specs.Nodes.{MeansNode}
use Rattle.zarrs_node.proofs.blocks.ListedBlock.{listed_block}
use Rattle.zarrs_node.proofs.children.consolidate_nodes_of.Goals as goal

pub returns-clause-exact : goal.returns-clause-exact
returns-clause-exact g c =
    listed_block (MeansNode (g.S.Store.contents c.args.storage.now) c.args.version.now) c.args.path.now c.in_ok-all.all.items c.in_ok-all.ensures.nodes c.new-block.result c.insert_pairs.new.block
    c.in_ok-all.ensures.ascending c.new-block.ensures c.in_ok-insert_pairs.ensures.inserted
