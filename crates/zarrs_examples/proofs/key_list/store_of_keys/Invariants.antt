use Rattle.zarrs_examples.specs.StepsOfOwnStores.{HasOnly}
use Rattle.zarrs_examples.proofs.key_list.store_of_keys.Given as goal

abbrev pub invariant-loop-key : goal.invariant-loop-key
invariant-loop-key l = HasOnly l.store l.yielded
