use Rattle.std.proofs.Common.{◌∙◌}
use Rattle.zarrs_block.proofs.BlockLaws.{none_copied, copied_next}
use Rattle.zarrs_block.proofs.consolidated.ConsolidatedMetadataMetadata.try_clone.Goals as goal

pub loop-key-init : goal.loop-key-init
loop-key-init c =
    none_copied c.new-copy.result c.args.self.now c.into_iter-key-iterator.result c.as_map.result.now.entries c.new-copy.ensures
    (c.into_iter-key-iterator.ensures.into_iter_gives ∙ c.iter-key-items.ensures.rest) c.as_map.ensures c.iter-key-items.ensures.ordered

pub loop-key-preserved : goal.loop-key-preserved
loop-key-preserved c =
    let l = c.loop-key in
    copied_next l.copy c.insert.new.self c.args.self.now l.key-iterator (c.in-Some.key.now, c.in-Some.metadata.now) c.next.new.self _ c.in_ok-try_clone.field-0
    c.in-Some.ensures.steps c.in_ok-key.ensures.cases c.in_ok-try_clone.ensures c.in_ok-insert.ensures.ok l.invariant
