use Rattle.std.specs.FinMap as map
use Rattle.zarrs_examples.proofs.own_store.ListStoreListableStorageTraits.list_prefix.Goals as goal

pub returns-clause-ok : goal.returns-clause-ok
returns-clause-ok c = c.keys_with_prefix.ensures (map.from_entries c.args.self.now.entries) c.in_ok-keys.ensures.ok
