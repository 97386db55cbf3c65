use Rattle.std.specs.Vec.Iter.{into_iter_items}
use Rattle.zarrs_block.proofs.Runs.{none_joined, one_joined, all_joined, joined_ascend, sorted_rise, none_remain}
use Rattle.zarrs_block.proofs.zmetadata.joined.Goals as goal

pub loop-next-init : goal.loop-next-init
loop-next-init c = record {
  can_next = tt;
  is_finite = tt;
  joining =
      none_joined c.args.runs.items c.new-all.result.items c.empty-run.result (into_iter_items c.into_iter-next-iterator.result) c.new-all.ensures.items c.empty-run.ensures.path c.empty-run.ensures.none
      c.into_iter-next-iterator.ensures.into_iter_gives.0 (sorted_rise c.args.runs.items c.requires);
}

pub loop-next-preserved : goal.loop-next-preserved
loop-next-preserved c =
    let l = c.loop-next in
    record {
      can_next = tt;
      is_finite = tt;
      joining =
          one_joined c.args.runs.items l.all.items c.join.new.all.items l.run c.in-Some.next c.in_ok-run.run' (into_iter_items l.next-iterator) (into_iter_items c.next.new.self) c.in-Some.ensures.steps.0 l.invariant.joining
          c.in_ok-run.ensures;
    }

pub returns-clause-same : goal.returns-clause-same
returns-clause-same c =
    let l = c.loop-next in
    all_joined c.args.runs.items l.all.items c.push.new.self.items l.run (into_iter_items l.next-iterator) (none_remain _ _ l.next-iterator.rest.ok.0 c.in-None.ensures.steps.0) c.in_ok-push.ensures.items l.invariant.joining

pub returns-clause-ascend : goal.returns-clause-ascend
returns-clause-ascend c =
    let l = c.loop-next in
    joined_ascend c.args.runs.items l.all.items c.push.new.self.items l.run (into_iter_items l.next-iterator) (none_remain _ _ l.next-iterator.rest.ok.0 c.in-None.ensures.steps.0) c.in_ok-push.ensures.items l.invariant.joining
