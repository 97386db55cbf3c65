use Rattle.std.proofs.Common.{◌≡◌, ◌+◌, length}
use Rattle.zarrs_node.specs.StepsOfTrees.{whole, heads}
use Rattle.zarrs_node.proofs.build.Pass.close_all.Given as goal

abbrev pub invariant-loop-self : goal.invariant-loop-self
invariant-loop-self l = record {
  same : whole l.self.roots.items l.self.opened.items ≡ whole l.initial.self.roots.items l.initial.self.opened.items;
  count : l.closed + length (heads l.self.opened.items) ≡ length (heads l.initial.self.opened.items);
}

abbrev pub decreases-loop-self : goal.decreases-loop-self
decreases-loop-self l = length (heads l.self.opened.items)
