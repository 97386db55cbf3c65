use Rattle.std.proofs.Common.{length}
use Rattle.zarrs_node.specs.Forest.{forest, pairs}
use Rattle.zarrs_node.specs.StepsOfPreorder.{ahead}
use Rattle.zarrs_node.proofs.blocks.NodesInBlocks.{PutsAhead}
use Rattle.zarrs_node.proofs.consolidate.insert_all.Given as goal

-- the nodes that are ahead make with the block what all make of it
abbrev pub invariant-loop-walk : goal.invariant-loop-walk
invariant-loop-walk l = PutsAhead l.base l.initial.block l.block (pairs (forest l.nodes)) (ahead l.walk.pending.items)

-- the nodes that are ahead
abbrev pub decreases-loop-walk : goal.decreases-loop-walk
decreases-loop-walk l = length (ahead l.walk.pending.items)
