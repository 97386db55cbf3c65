use Rattle.zarrs_notes.proofs.ToldNotes.{told_in_turn}
use Rattle.zarrs_notes.proofs.node.node_findings.Goals as goal

pub returns-clause-ok : goal.returns-clause-ok
returns-clause-ok g c =
    told_in_turn (g.S.Store.contents c.args.storage.now) c.args.path.now c.args.metadata.now c.add_fields.ensures.ascending c.new-found.result.items c.add_shape.new.found.items c.add_values.new.found.items c.add_fields.new.found.items c.add_misplaced.new.found.items c.add_beside.new.found.items
    c.add_left_over.new.found.items
    c.new-found.ensures.items c.in_ok-add_shape.ensures c.in_ok-add_values.ensures c.in_ok-add_fields.ensures.told c.in_ok-add_misplaced.ensures.ok c.in_ok-add_beside.ensures.ok c.in_ok-add_left_over.ensures.ok
