use Rattle.std.proofs.Common.{take, Contains}
use Rattle.zarrs_examples.specs.MapsOfNodes.{AreDocumentsOf}
use Rattle.zarrs_examples.specs.Conversions.{node_v3}
use Rattle.zarrs_examples.proofs.converter.documents_of.Given as goal

abbrev pub invariant-loop-path : goal.invariant-loop-path
invariant-loop-path g l = AreDocumentsOf node_v3 (Contains (take l.path-index l.nodes)) l.documents.items
