use Rattle.std.proofs.Common.{◌≡◌, ◌+◌, ◌*◌}
use Rattle.zarrs_node.specs.Forest.{forest}
use Rattle.zarrs_node.specs.StepsOfTrees.{graft}
use Rattle.zarrs_node.specs.StepsOfCounting.{weights}
use Rattle.zarrs_node.specs.StepsOfGrafts.{plug}
use Rattle.zarrs_node.proofs.CopiedForests.{waiting}
use Rattle.zarrs_node.proofs.copies.copy_nodes.Given as goal

-- the copies that are done and the nodes that are left, among the open nodes, make the whole
abbrev pub invariant-loop-node : goal.invariant-loop-node
invariant-loop-node l = plug l.opened.items (graft (forest l.done.items) (forest l.left)) ≡ forest l.fn.nodes

-- each node is opened once and closed once
abbrev pub decreases-loop-node : goal.decreases-loop-node
decreases-loop-node l = waiting l.opened.items + 2 * weights l.left
