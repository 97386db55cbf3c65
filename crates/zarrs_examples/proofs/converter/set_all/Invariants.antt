use Rattle.std.proofs.Common.{◌≡◌, take}
use Rattle.zarrs_examples.specs.MapsOfNodes.{with_documents}
use Rattle.zarrs_examples.proofs.converter.set_all.Given as goal

abbrev pub invariant-loop-key : goal.invariant-loop-key
invariant-loop-key g l =
    (g.S.Store.can_fail l.storage ≡ g.S.Store.can_fail l.fn.storage)
    × (g.S.Store.contents l.storage ≡ with_documents (g.S.Store.contents l.fn.storage) (take l.key-index l.documents))
