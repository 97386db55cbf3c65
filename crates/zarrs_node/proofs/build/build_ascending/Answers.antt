use Rattle.std.proofs.Common.{◌≡◌, ◌+◌, subst, arith}
use Rattle.zarrs_node.proofs.PassSteps.{Counts, turn, all_more, counts_closed, counts_taken, few_steps, few_last, none_left, end_shows, end_count}
use Rattle.zarrs_node.proofs.build.build_ascending.Goals as goal

pub overflow_add-steps-in-loop-path : goal.overflow_add-steps-in-loop-path
overflow_add-steps-in-loop-path c =
    let n = c.args.pairs.ok.0 in
    let m = c.args.pairs.small in
    let less = few_steps _ _ _ _ _ _ _ _ _ _ c.loop-path.invariant.all c.in-Some.ensures.steps.0 c.loop-path.invariant.counts c.in_ok-steps.ensures.count (omega (arith, n, m)) in
    omega (arith, less)

pub loop-path-preserved : goal.loop-path-preserved
loop-path-preserved c = record {
  can_next = tt;
  is_finite = tt;
  all = all_more _ _ _ _ _ c.loop-path.invariant.all c.in-Some.ensures.steps.0;
  holds = turn _ _ _ _ _ _ _ _ _ _ _ _ c.requires c.loop-path.invariant.all c.in-Some.ensures.steps.0 c.loop-path.invariant.holds c.in_ok-steps.ensures.same c.in_ok-steps.ensures.closed c.in_ok-take.ensures;
  counts =
      let counts = counts_taken _ _ _ _ _ _ _ _ (counts_closed _ _ _ _ _ _ _ c.loop-path.invariant.counts c.in_ok-steps.ensures.same c.in_ok-steps.ensures.count) c.in_ok-take.ensures in
      let same : (c.loop-path.steps + c.in_ok-steps.field-0) + 1 ≡ c.loop-path.steps + (1 + c.in_ok-steps.field-0) = omega arith in
      subst (Counts _ _ _) same counts;
}

pub overflow_add-steps-2 : goal.overflow_add-steps-2
overflow_add-steps-2 c =
    let n = c.args.pairs.ok.0 in
    let m = c.args.pairs.small in
    let less = few_last _ _ _ _ _ _ _ c.loop-path.invariant.all c.loop-path.invariant.counts c.in_ok-steps-2.ensures.count (omega (arith, n, m)) in
    omega (arith, less)

pub returns-clause-shows : goal.returns-clause-shows
returns-clause-shows c =
    end_shows _ _ _ _ _ _ _ _ c.loop-path.invariant.all (none_left _ _ c.loop-path.path-iterator.rest.ok.0 c.in-None.ensures.steps.0) c.in_ok-steps-2.ensures.same c.in_ok-steps-2.ensures.closed c.loop-path.invariant.holds

pub returns-clause-steps : goal.returns-clause-steps
returns-clause-steps c =
    end_count c.args.base.now _ _ _ _ _ _ _ c.loop-path.invariant.all (none_left _ _ c.loop-path.path-iterator.rest.ok.0 c.in-None.ensures.steps.0) c.in_ok-steps-2.ensures.same c.in_ok-steps-2.ensures.closed _ _ c.loop-path.invariant.counts c.in_ok-steps-2.ensures.count
