use Rattle.std.proofs.Common.{map, string_bytes}
use Rattle.std.specs.Vec.Iter.{into_iter_items}
use Rattle.zarrs_block.proofs.CoveredKeys.{AreGathered}
use Rattle.zarrs_block.proofs.expand.covered_keys.Given as goal

-- the first keys behind a slash are gathered where they are covered, and the others are left
abbrev pub invariant-loop-key : goal.invariant-loop-key
invariant-loop-key l = record {
  can_next : (goal.iterator-loop-key).can_next l.key-iterator;
  is_finite : (goal.iterator-loop-key).is_finite l.key-iterator;
  gathered : AreGathered l.block l.covered (map string_bytes (into_iter_items l.key-iterator));
}
