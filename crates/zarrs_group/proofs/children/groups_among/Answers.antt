use Rattle.std.proofs.Common.{◌∙◌}
use Rattle.zarrs_group.proofs.Together.{groups_step}
use Rattle.zarrs_group.proofs.children.groups_among.Goals as goal

pub loop-node-preserved : goal.loop-node-preserved
loop-node-preserved c =
    groups_step c.args.config.now c.loop-node.yielded c.in-Some.node c.loop-node.groups.items c.push_group.new.groups.items c.in_ok-path.path c.from.result
    (c.in_ok-path.ensures.ok ∙ c.path.ensures) c.from.ensures c.loop-node.invariant c.in_ok-push_group.ensures
