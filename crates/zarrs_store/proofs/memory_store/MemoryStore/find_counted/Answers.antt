use Rattle.std.proofs.Common.{sym, ◌∙◌, ap, subst, IfOk, IfErr}
use Rattle.std.specs.Map.{keys_of}
use Rattle.zarrs_store.specs.Places.{IsKeyAt, IsKeyGap}
use Rattle.zarrs_store.proofs.PlaceLemmas.{keys_of-shown}
use Rattle.zarrs_store.proofs.memory_store.MemoryStore.find_counted.Goals as goal

pub returns-clause-found : goal.returns-clause-found
returns-clause-found c =
    subst (λ ks. IfOk c.place_of.result.0 (IsKeyAt ks c.args.key.now))
    (ap keys_of c.deref.ensures.value ∙ sym (keys_of-shown (λ v. v.items) c.self.inside.entries.items) ∙ ap keys_of c.self.view_is) c.place_of.ensures.found

pub returns-clause-absent : goal.returns-clause-absent
returns-clause-absent c =
    subst (λ ks. IfErr c.place_of.result.0 (IsKeyGap ks c.args.key.now))
    (ap keys_of c.deref.ensures.value ∙ sym (keys_of-shown (λ v. v.items) c.self.inside.entries.items) ∙ ap keys_of c.self.view_is) c.place_of.ensures.absent
