use Rattle.std.proofs.Common.{◌↔◌, ◌+◌, ◌*◌, ◌≤◌, drop}
use Rattle.zarrs_node.specs.Forest.{forest, ArePlacedBelow, HasPlacedChildren}
use Rattle.zarrs_node.specs.StepsOfCounting.{weight, weights}
use Rattle.zarrs_node.proofs.node.+placed.Given as goal

-- the question is left to what is below the node, which has no more nodes
abbrev pub invariant-is_placed-loop-before : goal.invariant-is_placed-loop-before
invariant-is_placed-loop-before l = record { same : HasPlacedChildren l.root ↔ HasPlacedChildren l.node; less : weight l.node ≤ weight l.root }

-- the nodes of the tree
abbrev pub decreases-is_placed-loop-before : goal.decreases-is_placed-loop-before
decreases-is_placed-loop-before l = weight l.node

-- the question is left to the nodes that are left
abbrev pub invariant-are_placed-loop-node : goal.invariant-are_placed-loop-node
invariant-are_placed-loop-node l = ArePlacedBelow l.base (forest l.nodes) ↔ ArePlacedBelow l.base (forest (drop l.node-index l.nodes))

-- the nodes of the tree
abbrev pub decreases-is_placed : goal.decreases-is_placed
decreases-is_placed l = 2 * weight l.root.now

-- the nodes of all trees
abbrev pub decreases-are_placed : goal.decreases-are_placed
decreases-are_placed l = 2 * weights l.nodes.now + 1
