use Rattle.std.proofs.Common.{◌≡◌, vec_len}
use Rattle.zarrs_node.specs.StepsOfPreorder.{ahead}
use Rattle.zarrs_node.proofs.preorder.Preorder.next.Given as goal

-- a list that is used up had nothing ahead
abbrev pub invariant-loop-nodes : goal.invariant-loop-nodes
invariant-loop-nodes l = ahead l.self.pending.items ≡ ahead l.initial.self.pending.items

-- the lists that are held
abbrev pub decreases-loop-nodes : goal.decreases-loop-nodes
decreases-loop-nodes l = vec_len l.self.pending
