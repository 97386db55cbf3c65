use Rattle.std.proofs.Common.{◌≡◌, ◌++◌, length, string_bytes}
use Rattle.zarrs_node.specs.Forest.{metadata_of, below_of}
use Rattle.zarrs_node.specs.Lines.{tree_text}
use Rattle.zarrs_node.specs.StepsOfPreorder.{ahead}
use Rattle.zarrs_node.proofs.TreeTexts.{text_of}
use Rattle.zarrs_node.proofs.node.Node.hierarchy_tree.Given as goal

-- what is written and the lines of what is ahead make the whole
abbrev pub invariant-loop-walk : goal.invariant-loop-walk
invariant-loop-walk l = string_bytes l.text ++ text_of (ahead l.walk.pending.items) ≡ tree_text (metadata_of l.self) (below_of l.self)

-- the nodes that are ahead
abbrev pub decreases-loop-walk : goal.decreases-loop-walk
decreases-loop-walk l = length (ahead l.walk.pending.items)
