use Rattle.std.proofs.Common.{sym, subst}
use Rattle.zarrs_block.specs.Block.{Entries}
use Rattle.zarrs_node.specs.Forest.{Shows, forest}
use Rattle.zarrs_node.specs.Reach.{Kept}
use Rattle.zarrs_node.proofs.OpenedNodes.{entries_shown}
use Rattle.zarrs_node.proofs.open.nodes_of_block.Goals as goal

pub returns-in_ok-nodes-clause-shows : goal.returns-in_ok-nodes-clause-shows
returns-in_ok-nodes-clause-shows c =
    let b = c.args.path.now in
    let B = c.args.block.metadata in
    subst (λ r. Shows (forest c.in_ok-nodes.nodes.items) b (Kept (Entries B b) r b)) (sym c.if-recursive.true)
    (entries_shown _ _ _ _ _ c.in_ok-pairs.ensures.entries c.in_ok-nodes.ensures.shows)

pub returns-in_ok-direct_children_from_flat-clause-shows : goal.returns-in_ok-direct_children_from_flat-clause-shows
returns-in_ok-direct_children_from_flat-clause-shows c =
    let b = c.args.path.now in
    let B = c.args.block.metadata in
    subst (λ r. Shows (forest c.in_ok-direct_children_from_flat.field-0.items) b (Kept (Entries B b) r b)) (sym c.if-recursive.false)
    (entries_shown _ _ _ _ _ c.in_ok-pairs.ensures.entries (c.in_ok-direct_children_from_flat.ensures.shows c.in_ok-pairs.ensures.once))
