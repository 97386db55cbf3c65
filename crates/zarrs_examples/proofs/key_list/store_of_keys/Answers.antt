use Rattle.zarrs_examples.proofs.KeyLists.{only_none, only_pushed}
use Rattle.zarrs_examples.proofs.key_list.store_of_keys.Goals as goal

pub loop-key-init : goal.loop-key-init
loop-key-init c = only_none c.new-store.result c.new-store.ensures

pub loop-key-preserved : goal.loop-key-preserved
loop-key-preserved c =
    only_pushed c.loop-key.store c.insert.new.self c.loop-key.yielded c.in-Some.key c.new.result.items c.in_ok-insert.ensures.ok c.loop-key.invariant
