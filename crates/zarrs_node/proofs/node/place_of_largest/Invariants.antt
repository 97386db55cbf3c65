use Rattle.std.proofs.Common.{◌<◌, ◌≤◌, length}
use Rattle.zarrs_node.proofs.node.place_of_largest.Given as goal

-- the place is that of a node, where there is one
abbrev pub invariant-loop-at : goal.invariant-loop-at
invariant-loop-at l = record { within : l.place ≤ length l.nodes; some : 0 < length l.nodes → l.place < length l.nodes }
