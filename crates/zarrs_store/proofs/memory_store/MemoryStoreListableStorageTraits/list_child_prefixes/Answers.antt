use Rattle.std.proofs.Common.{◌≡◌, sym, ◌∙◌, ap, subst}
use Rattle.std.specs.FinMap as map
use Rattle.std.specs.Map.{keys_of}
use Rattle.zarrs_store.specs.Segments.{key_cmp}
use Rattle.zarrs_store.specs.Contents.{Lists, IsChildPrefix}
use Rattle.zarrs_store.specs.StepsOfStores.{child_prefixes}
use Rattle.zarrs_store.specs.Places.{IsRange}
use Rattle.zarrs_store.proofs.EntryLemmas.{shown}
use Rattle.zarrs_store.proofs.ListLemmas.{Lists-child_prefixes}
use Rattle.zarrs_store.proofs.PlaceLemmas.{keys_of-shown}
use Rattle.zarrs_store.proofs.memory_store.MemoryStoreListableStorageTraits.list_child_prefixes.Goals as goal

pub children_below-requires-clause-range : goal.children_below-requires-clause-range
children_below-requires-clause-range c =
    subst (λ ks. IsRange ks c.args.prefix.now c.range_counted-first.result.0 c.range_counted-first.result.1)
    (ap keys_of (sym c.self.view_is) ∙ keys_of-shown (λ v. v.items) c.self.inside.entries.items ∙ ap keys_of (sym c.deref.ensures.value)) c.range_counted-first.ensures.range

pub returns-clause-prefixes : goal.returns-clause-prefixes
returns-clause-prefixes c =
    let entries = c.self.inside.entries.items in
    let p = c.args.prefix.now in
    let found = c.in_ok-children_below.field-0.items in
    let is : found ≡ child_prefixes p (keys_of entries) = c.in_ok-children_below.ensures ∙ ap (λ es. child_prefixes p (keys_of es)) c.deref.ensures.value in
    subst (λ s. Lists (IsChildPrefix (map.from_entries {R = key_cmp} s) p) found) c.self.view_is
    (subst (Lists (IsChildPrefix (map.from_entries {R = key_cmp} (shown (λ v. v.items) entries)) p)) (sym is)
    (Lists-child_prefixes (λ v. v.items) entries p c.self.invariant.valid c.self.invariant.ascending))
