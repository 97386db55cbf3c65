use Rattle.std.proofs.Common.{sym, ◌∙◌}
use Rattle.zarrs_node.proofs.walk.WalkPrefixes.{ahead_turn, ahead_past}
use Rattle.zarrs_node.proofs.preorder.Preorder.next.Goals as goal

pub returns-in-Some-split_first : goal.returns-in-Some-split_first
returns-in-Some-split_first c =
    sym c.loop-nodes.invariant
    ∙ ahead_turn _ _ _ _ c.in-Some.nodes c.in-Some-split_first.after c.deref.result c.in-Some-split_first.node.now c.len-level.result c.in-Some.ensures.items c.in-Some-split_first.ensures.cases.0
    c.in_ok-push.ensures.items (c.len-level.ensures ∙ c.push.new.self.ok.0) c.deref.ensures.value c.in_ok-push-2.ensures.items

pub loop-nodes-preserved : goal.loop-nodes-preserved
loop-nodes-preserved c = ahead_past _ _ c.in-Some.nodes c.in-Some.ensures.items c.in_default-split_first.ensures.cases ∙ c.loop-nodes.invariant
