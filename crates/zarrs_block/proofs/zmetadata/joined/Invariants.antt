use Rattle.std.specs.Vec.Iter.{into_iter_items}
use Rattle.zarrs_block.proofs.Runs.{IsJoining}
use Rattle.zarrs_block.proofs.zmetadata.joined.Given as goal

-- the first runs are joined, and the others are left
abbrev pub invariant-loop-next : goal.invariant-loop-next
invariant-loop-next l = record {
  can_next : (goal.iterator-loop-next).can_next l.next-iterator;
  is_finite : (goal.iterator-loop-next).is_finite l.next-iterator;
  joining : IsJoining l.fn.runs.items l.all.items l.run (into_iter_items l.next-iterator);
}
