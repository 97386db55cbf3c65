use Rattle.std.proofs.Common.{◌≡◌}
use Rattle.std.specs.Vec.Iter.{into_iter_items}
use Rattle.zarrs_node.specs.StepsOfBlocks.{ArePairsBelow, put_all}
use Rattle.zarrs_node.proofs.refresh.insert_pairs.Given as goal

-- the pairs that are left, put into the block, make what all make of it, and they stand below the base
abbrev pub invariant-loop-path : goal.invariant-loop-path
invariant-loop-path l =
    (put_all l.base l.block (into_iter_items l.path-iterator) ≡ put_all l.base l.initial.block l.fn.pairs.items) × ArePairsBelow l.base (into_iter_items l.path-iterator)
