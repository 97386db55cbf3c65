use Rattle.zarrs_examples.proofs.ConvertedNodes.{in_front}
use Rattle.zarrs_examples.proofs.converter.nodes_from.Goals as goal

pub returns-clause-nodes : goal.returns-clause-nodes
returns-clause-nodes g c =
    (in_front c.base_in_front.ensures (g.S.Store.contents c.args.storage.now) c.args.version.now c.args.base.now c.in_ok-try_clone.field-0 c.in_ok-metadata.metadata c.in_ok-nodes.nodes.items c.insert.new.self.items
    c.in_ok-metadata.ensures.ok c.in_ok-nodes.ensures.nodes c.in_ok-nodes.ensures.ascending c.in_ok-try_clone.ensures.ok c.in_ok-insert.ensures.items).0

pub returns-clause-ascending : goal.returns-clause-ascending
returns-clause-ascending g c =
    (in_front c.base_in_front.ensures (g.S.Store.contents c.args.storage.now) c.args.version.now c.args.base.now c.in_ok-try_clone.field-0 c.in_ok-metadata.metadata c.in_ok-nodes.nodes.items c.insert.new.self.items
    c.in_ok-metadata.ensures.ok c.in_ok-nodes.ensures.nodes c.in_ok-nodes.ensures.ascending c.in_ok-try_clone.ensures.ok c.in_ok-insert.ensures.items).1
