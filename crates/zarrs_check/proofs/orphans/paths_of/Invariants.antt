use Rattle.std.proofs.Common.{◌≡◌, ◌++◌}
use Rattle.std.specs.Vec.Iter.{into_iter_items}
use Rattle.zarrs_check.specs.StepsOfOrphans.{AreKeyedBelow}
use Rattle.zarrs_check.proofs.orphans.paths_of.Given as goal

-- the keys of before and those that are left are all, and the paths are those of the keys of before
abbrev pub invariant-loop-key : goal.invariant-loop-key
invariant-loop-key l = (l.yielded ++ into_iter_items l.key-iterator ≡ l.fn.keys.items) × AreKeyedBelow l.yielded l.path l.paths.items
