use Rattle.std.proofs.Common.{◌≡◌, take}
use Rattle.zarrs_examples.specs.MapsOfNodes.{keys_beside}
use Rattle.zarrs_examples.proofs.converter.version_2_keys.Given as goal

abbrev pub invariant-loop-path : goal.invariant-loop-path
invariant-loop-path l = l.keys.items ≡ keys_beside (take l.path-index l.nodes)
