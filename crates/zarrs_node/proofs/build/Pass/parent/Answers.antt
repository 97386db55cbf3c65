use Rattle.std.proofs.Common.{sym, ap, ◌∙◌}
use Rattle.zarrs_node.specs.StepsOfTrees.{top, heads}
use Rattle.zarrs_node.proofs.OpenGroups.{top_last}
use Rattle.zarrs_node.proofs.build.Pass.parent.Goals as goal

pub returns-in-Some : goal.returns-in-Some
returns-in-Some c =
    sym (top_last c.args.base.now c.deref.result.now c.in-Some.group.now c.in-Some.ensures.item.3.0 c.in-Some.ensures.item.1)
    ∙ ap (λ l. top c.args.base.now (heads l)) c.deref.ensures.value
