use Rattle.std.proofs.Common.{◌≡◌, map}
use Rattle.zarrs_group.specs.Children.{groups_of}
use Rattle.zarrs_group.proofs.Together.{pair_of}
use Rattle.zarrs_group.proofs.children.groups_among.Given as goal

abbrev pub invariant-loop-node : goal.invariant-loop-node
invariant-loop-node l = l.groups.items ≡ groups_of l.config (map pair_of l.yielded)
