use Rattle.std.proofs.Common.{ap, ◌∙◌}
use Rattle.zarrs_node.specs.LastOfEqualPaths.{row}
use Rattle.zarrs_node.proofs.PassSteps.{all_more, none_left}
use Rattle.zarrs_node.proofs.Direct.{row_step, done_all}
use Rattle.zarrs_node.proofs.build.bare_nodes.Goals as goal

pub loop-path-preserved : goal.loop-path-preserved
loop-path-preserved c = record {
  can_next = tt;
  is_finite = tt;
  all = all_more _ _ _ _ _ c.loop-path.invariant.all c.in-Some.ensures.steps.0;
  row = row_step _ _ _ _ _ c.loop-path.invariant.row c.new.ensures.items c.in_ok-push_node.ensures;
}

pub returns : goal.returns
returns c = c.loop-path.invariant.row ∙ ap row (done_all _ _ _ c.loop-path.invariant.all (none_left _ _ c.loop-path.path-iterator.rest.ok.0 c.in-None.ensures.steps.0))
