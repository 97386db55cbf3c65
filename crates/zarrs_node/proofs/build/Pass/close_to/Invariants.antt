use Rattle.std.proofs.Common.{◌≡◌, ◌+◌, length}
use Rattle.zarrs_node.specs.StepsOfTrees.{whole, heads}
use Rattle.zarrs_node.proofs.PassSteps.{Closing}
use Rattle.zarrs_node.proofs.build.Pass.close_to.Given as goal

abbrev pub invariant-loop-group : goal.invariant-loop-group
invariant-loop-group l = record {
  same : whole l.self.roots.items l.self.opened.items ≡ whole l.initial.self.roots.items l.initial.self.opened.items;
  closing : Closing l.path (heads l.initial.self.opened.items) (heads l.self.opened.items);
  count : l.closed + length (heads l.self.opened.items) ≡ length (heads l.initial.self.opened.items);
}

abbrev pub decreases-loop-group : goal.decreases-loop-group
decreases-loop-group l = length (heads l.self.opened.items)
