use Rattle.std.proofs.lemmas.Result.{IfOk-weaker}
use Rattle.zarrs_examples.proofs.KeyLists.{dir_keys, dir_prefixes}
use Rattle.zarrs_examples.proofs.key_list.dir_of_keys.Goals as goal

pub returns-clause-keys : goal.returns-clause-keys
returns-clause-keys c =
    IfOk-weaker c.list_dir.result _ _
    (λ dir h. λ S all. dir_keys c.in_ok-store.store c.args.keys.items c.in_ok-store.ensures c.args.prefix.now S all dir.keys.items h) c.list_dir.ensures.keys

pub returns-clause-prefixes : goal.returns-clause-prefixes
returns-clause-prefixes c =
    IfOk-weaker c.list_dir.result _ _
    (λ dir h. λ S all. dir_prefixes c.in_ok-store.store c.args.keys.items c.in_ok-store.ensures c.args.prefix.now S all dir.prefixes.items h) c.list_dir.ensures.prefixes
