use Rattle.std.proofs.Common.{◌≡◌, ◌++◌}
use Rattle.std.specs.Vec.Iter.{into_iter_items}
use Rattle.zarrs_node.specs.Forest.{forest}
use Rattle.zarrs_node.specs.LastOfEqualPaths.{row}
use Rattle.zarrs_node.proofs.build.bare_nodes.Given as goal

abbrev pub invariant-loop-path : goal.invariant-loop-path
invariant-loop-path l = record {
  can_next : (goal.iterator-loop-path).can_next l.path-iterator;
  is_finite : (goal.iterator-loop-path).is_finite l.path-iterator;
  all : l.yielded ++ into_iter_items l.path-iterator ≡ l.fn.pairs.items;
  row : forest l.nodes.items ≡ row l.yielded;
}
