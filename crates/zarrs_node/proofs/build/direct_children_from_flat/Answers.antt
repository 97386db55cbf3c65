use Rattle.std.proofs.Common.{rules}
use Rattle.zarrs_node.specs.Forest.{forest}
use Rattle.zarrs_block.proofs.InOrder.{sorted_by_path, stable_by_path}
use Rattle.zarrs_node.proofs.Direct.{children_sorted, children_row, children_show}
use Rattle.zarrs_node.proofs.build.direct_children_from_flat.Goals as goal

pub returns-clause-children : goal.returns-clause-children
returns-clause-children c =
    children_row (λ v. forest v.items) _ _ _
    (children_sorted _ _ _ _ c.in_ok-children.ensures (sorted_by_path (λ f a r q k. search rules) _ c.in_ok-sort_by.ensures.sorted) (stable_by_path (λ f a r q k. search rules) _ _ c.in_ok-sort_by.ensures.stable))
    c.bare_nodes.result c.bare_nodes.ensures

pub returns-clause-shows : goal.returns-clause-shows
returns-clause-shows c =
    children_show (λ v. forest v.items) _ _ _
    (children_sorted _ _ _ _ c.in_ok-children.ensures (sorted_by_path (λ f a r q k. search rules) _ c.in_ok-sort_by.ensures.sorted) (stable_by_path (λ f a r q k. search rules) _ _ c.in_ok-sort_by.ensures.stable))
    c.bare_nodes.result c.bare_nodes.ensures
