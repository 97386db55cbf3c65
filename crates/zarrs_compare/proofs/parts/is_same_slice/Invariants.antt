use Rattle.std.proofs.Common.{◌≡◌, drop}
use Rattle.std.specs.Slice.Iter.{iter_rest}
use Rattle.zarrs_compare.specs.StepsOfSame.{same_list}
use Rattle.zarrs_compare.proofs.parts.is_same_slice.Given as goal

-- the items that are left are the same where all are
abbrev pub invariant-loop-item : goal.invariant-loop-item
invariant-loop-item g l = same_list g.T.Same.same (drop l.item-index l.first) (iter_rest l.others) ≡ same_list g.T.Same.same l.first l.second
