-- How many nodes a list of nodes has with all below them: what a loop over a tree counts down.
use Rattle.std.specs.Prelude.{ℕ, ◌+◌, List, map, sum}
use Rattle.zarrs_node.specs.declared.node.Node.{Node}
use Rattle.zarrs_node.specs.declared.node.Node.TheOpen.{Node-F}
use Rattle.zarrs_node.specs.declared.node.Node.TheFolds.{fold-Node}
use Rattle.zarrs_node.specs.declared.node.Node.TheViews.{out-Node}

-- the nodes directly below a node
abbrev pub children_of : Node → List Node
children_of n = (out-Node n).children.items

-- one node more than its children have
abbrev pub weigh_step : Node-F ℕ → ℕ
weigh_step x = sum x.children.items + 1

-- the number of nodes of a node's tree
abbrev pub weight : Node → ℕ
weight = fold-Node ℕ weigh_step

-- the number of nodes of all the trees
abbrev pub weights : List Node → ℕ
weights ns = sum (map weight ns)
