use Rattle.std.specs.Vec.Iter.{into_iter_items}
use Rattle.zarrs_block.specs.StepsOfZmetadata.{tree_among}
use Rattle.zarrs_block.proofs.ZmetadataSteps.{IsRead}
use Rattle.zarrs_block.proofs.zmetadata.nodes_of.Given as goal

-- the block has the nodes of the first runs, and the others are left
abbrev pub invariant-loop-run : goal.invariant-loop-run
invariant-loop-run l = record {
  can_next : (goal.iterator-loop-run).can_next l.run-iterator;
  is_finite : (goal.iterator-loop-run).is_finite l.run-iterator;
  read : IsRead l.fn.numbers (tree_among l.fn.runs.items) l.block (into_iter_items l.run-iterator);
}
