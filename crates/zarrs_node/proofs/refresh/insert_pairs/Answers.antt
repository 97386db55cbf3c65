use Rattle.std.proofs.Common.{◌∙◌}
use Rattle.std.specs.Vec.Iter.{into_iter_items}
use Rattle.zarrs_node.specs.StepsOfBlocks.{put_all}
use Rattle.zarrs_node.proofs.PassSteps.{none_left}
use Rattle.zarrs_node.proofs.blocks.MeaningsAnew.{insert_start, insert_low, insert_next, insert_end}
use Rattle.zarrs_node.proofs.refresh.insert_pairs.Goals as goal

pub text_beyond-requires : goal.text_beyond-requires
text_beyond-requires c =
    insert_low c.args.base.now c.loop-path.block (put_all c.args.base.now c.args.block.now c.args.pairs.items) (into_iter_items c.loop-path.path-iterator) (into_iter_items c.next.new.self)
    (c.in-Some.path, c.in-Some.metadata) c.in-Some.ensures.steps.0 c.loop-path.invariant

pub loop-path-init : goal.loop-path-init
loop-path-init c =
    insert_start c.args.base.now c.args.block.now (into_iter_items c.into_iter-path-iterator.result) c.args.pairs.items c.into_iter-path-iterator.ensures.into_iter_gives.0 c.requires.below

pub loop-path-preserved : goal.loop-path-preserved
loop-path-preserved c =
    insert_next c.args.base.now c.loop-path.block c.insert.new.self (put_all c.args.base.now c.args.block.now c.args.pairs.items) (into_iter_items c.loop-path.path-iterator)
    (into_iter_items c.next.new.self) (c.in-Some.path, c.in-Some.metadata) _ c.in-Some.ensures.steps.0 (c.in_ok-key.ensures.ok ∙ c.text_beyond.ensures.text) c.in_ok-insert.ensures.ok c.loop-path.invariant

pub returns : goal.returns
returns c = record {
  inserted =
      insert_end c.args.base.now c.loop-path.block (put_all c.args.base.now c.args.block.now c.args.pairs.items) (into_iter_items c.loop-path.path-iterator)
      (none_left _ _ c.loop-path.path-iterator.rest.ok.0 c.in-None.ensures.steps.0) c.loop-path.invariant;
}
