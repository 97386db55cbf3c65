use Rattle.std.proofs.Common.{◌≡◌, ◌++◌}
use Rattle.std.specs.Vec.Iter.{into_iter_items}
use Rattle.zarrs_node.proofs.PassSteps.{Holds, Counts}
use Rattle.zarrs_node.proofs.build.build_ascending.Given as goal

abbrev pub invariant-loop-path : goal.invariant-loop-path
invariant-loop-path l = record {
  can_next : (goal.iterator-loop-path).can_next l.path-iterator;
  is_finite : (goal.iterator-loop-path).is_finite l.path-iterator;
  all : l.yielded ++ into_iter_items l.path-iterator ≡ l.fn.pairs.items;
  holds : Holds l.base l.yielded (into_iter_items l.path-iterator) l.pass.roots.items l.pass.opened.items;
  counts : Counts l.yielded l.pass.roots.items l.pass.opened.items l.steps;
}
