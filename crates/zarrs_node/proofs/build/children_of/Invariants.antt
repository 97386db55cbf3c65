use Rattle.std.proofs.Common.{◌≡◌, ◌++◌}
use Rattle.std.specs.Vec.Iter.{into_iter_items}
use Rattle.zarrs_node.specs.LastOfEqualPaths.{StandBelow}
use Rattle.zarrs_node.proofs.build.children_of.Given as goal

abbrev pub invariant-loop-pair : goal.invariant-loop-pair
invariant-loop-pair l = record {
  can_next : (goal.iterator-loop-pair).can_next l.pair-iterator;
  is_finite : (goal.iterator-loop-pair).is_finite l.pair-iterator;
  all : l.yielded ++ into_iter_items l.pair-iterator ≡ l.fn.pairs.items;
  stand : StandBelow l.path l.yielded l.children.items;
}
