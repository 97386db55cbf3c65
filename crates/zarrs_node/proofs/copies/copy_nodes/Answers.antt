use Rattle.std.proofs.Common.{sym, ap, ◌∙◌}
use Rattle.zarrs_node.specs.Forest.{forest}
use Rattle.zarrs_node.specs.StepsOfTrees.{graft}
use Rattle.zarrs_node.specs.StepsOfGrafts.{plug}
use Rattle.zarrs_node.proofs.OpenForests.{graft_none}
use Rattle.zarrs_node.proofs.CopiedForests.{plug_opened, plug_closed, opened_less, closed_less}
use Rattle.zarrs_node.proofs.walk.WalkPrefixes.{length_zero}
use Rattle.zarrs_node.proofs.copies.copy_nodes.Goals as goal

pub loop-node-smaller-in-Some : goal.loop-node-smaller-in-Some
loop-node-smaller-in-Some c = opened_less c.loop-node.opened.items _ _ _ _ c.in_ok-push.ensures.items c.in-Some.ensures.cases.0 c.deref-left.ensures.value

pub loop-node-preserved-in-Some : goal.loop-node-preserved-in-Some
loop-node-preserved-in-Some c =
    plug_opened c.loop-node.opened.items _ _ c.loop-node.left.now _ _ c.in_ok-push.ensures.items c.in-Some.ensures.cases.0 c.new-done-in-Some.ensures.items c.deref-left.ensures.value
    ∙ c.loop-node.invariant

pub loop-node-smaller : goal.loop-node-smaller
loop-node-smaller c = closed_less c.loop-node.opened.items c.pop.new.self.items c.in-Some-pop.frame c.loop-node.left.now c.in-Some-pop.ensures.items

pub loop-node-preserved : goal.loop-node-preserved
loop-node-preserved c =
    plug_closed c.loop-node.opened.items c.pop.new.self.items c.in-Some-pop.frame _ _ c.loop-node.done.items c.push_node.new.nodes.items c.loop-node.left.now
    c.in-Some-pop.ensures.items (length_zero c.loop-node.left.now c.in_default.ensures.cases) c.in_ok-push_node.ensures c.in_ok-path.ensures.ok c.in_ok-metadata.ensures
    ∙ c.loop-node.invariant

pub returns-in_default-pop : goal.returns-in_default-pop
returns-in_default-pop c =
    sym (graft_none (forest c.loop-node.done.items))
    ∙ ap (λ l. graft (forest c.loop-node.done.items) (forest l)) (sym (length_zero c.loop-node.left.now c.in_default.ensures.cases))
    ∙ ap (λ os. plug os (graft (forest c.loop-node.done.items) (forest c.loop-node.left.now))) (sym (length_zero c.loop-node.opened.items (sym c.loop-node.opened.ok.0 ∙ c.in_default-pop.ensures.cases.0)))
    ∙ c.loop-node.invariant
