use Rattle.zarrs_examples.proofs.OwnStores.{HasSteps}
use Rattle.zarrs_examples.proofs.own_store.first_misplaced.Given as goal

abbrev pub invariant-loop-at : goal.invariant-loop-at
invariant-loop-at l = HasSteps l.entries l.at
