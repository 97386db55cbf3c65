use Rattle.zarrs_store.proofs.PlaceLemmas.{none_ascend}
use Rattle.zarrs_store.proofs.memory_store.MemoryStore.new.Goals as goal

pub invariant_of-result : goal.invariant_of-result
invariant_of-result c = none_ascend c.new.result.items c.new.ensures.items
