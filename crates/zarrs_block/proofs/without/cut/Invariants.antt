use Rattle.std.proofs.Common.{map, string_bytes}
use Rattle.std.specs.Vec.Iter.{into_iter_items}
use Rattle.zarrs_block.proofs.CutOut.{IsLeft}
use Rattle.zarrs_block.proofs.without.cut.Given as goal

-- the keys that are left are still to be taken out of the block
abbrev pub invariant-loop-below : goal.invariant-loop-below
invariant-loop-below l = IsLeft l.key l.initial.block l.block (map string_bytes (into_iter_items l.below-iterator))
