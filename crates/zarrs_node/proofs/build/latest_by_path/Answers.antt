use Rattle.std.proofs.Common.{sym, subst, rules}
use Rattle.std.specs.List.Sorted.{IsSortedBy}
use Rattle.zarrs_node.proofs.PassSteps.{all_more, none_left}
use Rattle.zarrs_block.proofs.InOrder.{before, sorted_by_path, stable_by_path}
use Rattle.zarrs_node.proofs.Lasts.{KeepsLast, keeps_turn, all_sorted, latest_all}
use Rattle.zarrs_node.proofs.build.latest_by_path.Goals as goal

pub loop-pair-preserved : goal.loop-pair-preserved
loop-pair-preserved c = record {
  can_next = tt;
  is_finite = tt;
  all = all_more _ _ _ _ _ c.loop-pair.invariant.all c.in-Some.ensures.steps.0;
  keeps =
      let up = sorted_by_path (λ f a r q k. search rules) _ c.in_ok-sort_by.ensures.sorted in
      subst (KeepsLast _) (sym c.in_ok-push.ensures.items) (keeps_turn _ _ _ _ c.loop-pair.invariant.keeps (all_sorted _ _ _ _ _ (subst (IsSortedBy before) (sym c.into_iter-pair-iterator.ensures.into_iter_gives.0) up) c.loop-pair.invariant.all c.in-Some.ensures.steps.0) c.drop_equal.ensures);
}

pub returns-clause-latest : goal.returns-clause-latest
returns-clause-latest c =
    latest_all _ _ _ _ _ _ c.into_iter-pair-iterator.ensures.into_iter_gives.0 c.loop-pair.invariant.all (none_left _ _ c.loop-pair.pair-iterator.rest.ok.0 c.in-None.ensures.steps.0) c.loop-pair.invariant.keeps
    (stable_by_path (λ f a r q k. search rules) _ _ c.in_ok-sort_by.ensures.stable)
