use Rattle.std.proofs.Common.{◌∷◌, ◌++◌, [], sym, subst, ◌∙◌, true≢false}
use Rattle.zarrs_node.specs.LastOfEqualPaths.{StandBelow}
use Rattle.zarrs_node.proofs.PassSteps.{all_more, none_left}
use Rattle.zarrs_node.proofs.Direct.{stand_child, stand_other, done_all}
use Rattle.zarrs_node.proofs.build.children_of.Goals as goal

pub loop-pair-preserved-in-Continue-1 : goal.loop-pair-preserved-in-Continue-1
loop-pair-preserved-in-Continue-1 c = record {
  can_next = tt;
  is_finite = tt;
  all = all_more _ _ _ _ _ c.loop-pair.invariant.all c.in-Some.ensures.steps.0;
  stand = subst (StandBelow c.args.path.now (c.loop-pair.yielded ++ c.in-Some.pair ∷ [])) (sym c.in_ok-push.ensures.items) (stand_child _ _ _ _ c.loop-pair.invariant.stand c.is_child.ensures.valid (c.is_child.ensures.child.0 c.if-is_child.true));
}

pub loop-pair-preserved-else-is_child : goal.loop-pair-preserved-else-is_child
loop-pair-preserved-else-is_child c = record {
  can_next = tt;
  is_finite = tt;
  all = all_more _ _ _ _ _ c.loop-pair.invariant.all c.in-Some.ensures.steps.0;
  stand = stand_other _ _ _ _ c.loop-pair.invariant.stand (λ child. true≢false (sym (c.is_child.ensures.child.1 child) ∙ c.if-is_child.false));
}

pub loop-pair-preserved-else-is_child-2 : goal.loop-pair-preserved-else-is_child-2
loop-pair-preserved-else-is_child-2 c = record {
  can_next = tt;
  is_finite = tt;
  all = all_more _ _ _ _ _ c.loop-pair.invariant.all c.in-Some.ensures.steps.0;
  stand = stand_other _ _ _ _ c.loop-pair.invariant.stand (λ child. true≢false (sym (c.is_child.ensures.child.1 child) ∙ c.if-is_child.false));
}

pub loop-pair-preserved : goal.loop-pair-preserved
loop-pair-preserved c = record {
  can_next = tt;
  is_finite = tt;
  all = all_more _ _ _ _ _ c.loop-pair.invariant.all c.in-Some.ensures.steps.0;
  stand = stand_other _ _ _ _ c.loop-pair.invariant.stand (λ child. true≢false (sym (c.is_child.ensures.child.1 child) ∙ c.if-is_child.false));
}

pub returns : goal.returns
returns c = subst (λ l. StandBelow c.args.path.now l c.loop-pair.children.items) (done_all _ _ _ c.loop-pair.invariant.all (none_left _ _ c.loop-pair.pair-iterator.rest.ok.0 c.in-None.ensures.steps.0)) c.loop-pair.invariant.stand
