use Rattle.std.proofs.Common.{◌≡◌, ◌++◌, sym, ◌∙◌, ap, subst, append-nil}
use Rattle.std.specs.FinMap as map
use Rattle.std.specs.Map.{keys_of}
use Rattle.zarrs_store.specs.Segments.{key_cmp}
use Rattle.zarrs_store.specs.Contents.{Lists, HasKey}
use Rattle.zarrs_store.proofs.EntryLemmas.{shown}
use Rattle.zarrs_store.proofs.ListLemmas.{Lists-all}
use Rattle.zarrs_store.proofs.Ranges.{none_left}
use Rattle.zarrs_examples.specs.OwnStores.{ListedEntries}
use Rattle.zarrs_examples.proofs.own_store.ListStoreListableStorageTraits.list.Goals as goal

pub returns-clause-ok : goal.returns-clause-ok
returns-clause-ok c =
    let entries = c.self.inside.entries.items in
    let is : c.loop-key.keys.items ≡ keys_of entries =
    sym (append-nil c.loop-key.keys.items) ∙ ap (λ r. c.loop-key.keys.items ++ r) (sym (none_left c.loop-key.key-index c.deref-key-items.result.now c.loop-key-test.false))
    ∙ c.loop-key.invariant ∙ ap keys_of c.deref-key-items.ensures.value in
    subst (λ (s : ListedEntries). Lists (HasKey (map.from_entries {R = key_cmp} s.entries)) c.loop-key.keys.items) c.self.view_is
    (subst (Lists (HasKey (map.from_entries {R = key_cmp} (shown (λ v. v.items) entries)))) (sym is)
    (Lists-all (λ v. v.items) entries c.self.invariant.ascending))
