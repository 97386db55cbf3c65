use Rattle.std.proofs.Common.{◌≡◌, ◌++◌, drop}
use Rattle.std.specs.Map.{keys_of}
use Rattle.zarrs_examples.proofs.own_store.ListStoreListableStorageTraits.list.Given as goal

abbrev pub invariant-loop-key : goal.invariant-loop-key
invariant-loop-key l = l.keys.items ++ keys_of (drop l.key-index l.key-items) ≡ keys_of l.key-items
