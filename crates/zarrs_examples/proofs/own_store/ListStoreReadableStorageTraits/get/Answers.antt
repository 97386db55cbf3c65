use Rattle.std.proofs.Common.{sym, ◌∙◌, ap, subst, Some}
use Rattle.std.specs.FinMap as map
use Rattle.std.specs.Map.{keys_of}
use Rattle.zarrs_store.specs.Segments.{key_cmp}
use Rattle.zarrs_store.specs.Places.{IsKeyAt, IsKeyGap}
use Rattle.zarrs_store.proofs.PlaceLemmas.{get_there, get_missing, keys_of-shown}
use Rattle.zarrs_examples.specs.OwnStores.{ListedEntries}
use Rattle.zarrs_examples.proofs.own_store.ListStoreReadableStorageTraits.get.Goals as goal

-- the key stands among the entries
pub returns-in_ok-from_slice-in-Ok-clause-ok : goal.returns-in_ok-from_slice-in-Ok-clause-ok
returns-in_ok-from_slice-in-Ok-clause-ok c =
    let key = c.args.key.now in
    ap Some (c.in_ok-from_slice-in-Ok.ensures.items ∙ c.as_slice.ensures.value)
    ∙ sym (get_there (λ v. v.items) c.self.inside.entries.items c.self.invariant key c.as_str-valid.ensures.valid c.in-Ok.at
    (subst (λ ks. IsKeyAt ks key c.in-Ok.at) (ap keys_of c.deref.ensures.value ∙ sym (keys_of-shown (λ v. v.items) c.self.inside.entries.items)) c.in-Ok.ensures.found) c.index.result.now c.index.ensures)
    ∙ ap (λ (s : ListedEntries). map.get (map.from_entries {R = key_cmp} s.entries) key) c.self.view_is

-- it does not
pub returns-in-Err-clause-ok : goal.returns-in-Err-clause-ok
returns-in-Err-clause-ok c =
    let key = c.args.key.now in
    sym (get_missing (λ v. v.items) c.self.inside.entries.items c.self.invariant key c.as_str-valid.ensures.valid c.in-Err.field-0
    (subst (λ ks. IsKeyGap ks key c.in-Err.field-0) (ap keys_of c.deref.ensures.value ∙ sym (keys_of-shown (λ v. v.items) c.self.inside.entries.items)) c.in-Err.ensures.absent))
    ∙ ap (λ (s : ListedEntries). map.get (map.from_entries {R = key_cmp} s.entries) key) c.self.view_is
