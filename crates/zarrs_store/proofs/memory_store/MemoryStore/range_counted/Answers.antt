use Rattle.std.proofs.Common.{sym, ◌∙◌, ap, subst}
use Rattle.std.specs.Map.{keys_of}
use Rattle.zarrs_store.specs.Places.{IsRange}
use Rattle.zarrs_store.proofs.PlaceLemmas.{keys_of-shown}
use Rattle.zarrs_store.proofs.memory_store.MemoryStore.range_counted.Goals as goal

pub returns-clause-range : goal.returns-clause-range
returns-clause-range c =
    subst (λ ks. IsRange ks c.args.prefix.now c.range_of.result.0 c.range_of.result.1)
    (ap keys_of c.deref.ensures.value ∙ sym (keys_of-shown (λ v. v.items) c.self.inside.entries.items) ∙ ap keys_of c.self.view_is) c.range_of.ensures.range
