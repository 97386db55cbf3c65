use Rattle.std.specs.FinMap as map
use Rattle.std.proofs.lemmas.Result.{IfOk-weaker}
use Rattle.zarrs_examples.proofs.own_store.ListStoreListableStorageTraits.list_dir.Goals as goal

pub returns-clause-keys : goal.returns-clause-keys
returns-clause-keys c =
    IfOk-weaker c.dir_of_keys.result _ _ (λ dir h. h (map.from_entries c.args.self.now.entries) c.in_ok-keys.ensures.ok) c.dir_of_keys.ensures.keys

pub returns-clause-prefixes : goal.returns-clause-prefixes
returns-clause-prefixes c =
    IfOk-weaker c.dir_of_keys.result _ _ (λ dir h. h (map.from_entries c.args.self.now.entries) c.in_ok-keys.ensures.ok) c.dir_of_keys.ensures.prefixes
