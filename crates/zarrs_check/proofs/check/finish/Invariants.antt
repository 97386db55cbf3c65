use Rattle.std.proofs.Common.{◌≡◌, ◌++◌}
use Rattle.std.specs.Vec.Iter.{into_iter_items}
use Rattle.zarrs_meaning.specs.Exists.{HasNodeKey}
use Rattle.zarrs_check.specs.StepsOfTaking.{AreEnds}
use Rattle.zarrs_check.proofs.check.finish.Given as goal

-- the blocks of before and those that are left are all, and what is told is told of those of before
abbrev pub invariant-loop-block : goal.invariant-loop-block
invariant-loop-block g l = (l.yielded ++ into_iter_items l.block-iterator ≡ l.fn.blocks.items) × AreEnds (HasNodeKey (g.S.Store.contents l.storage)) l.yielded l.bad l.found.items
