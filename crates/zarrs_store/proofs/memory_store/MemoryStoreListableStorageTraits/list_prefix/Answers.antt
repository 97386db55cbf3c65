use Rattle.std.proofs.Common.{◌≡◌, ◌++◌, slice_range, sym, ◌∙◌, ap, subst, append-nil}
use Rattle.std.specs.FinMap as map
use Rattle.std.specs.Map.{keys_of}
use Rattle.std.specs.Prelude.{filter}
use Rattle.zarrs_store.specs.Segments.{key_cmp}
use Rattle.zarrs_store.specs.Contents.{Lists, IsKeyBelow}
use Rattle.zarrs_store.specs.Entries.{is_below}
use Rattle.zarrs_store.specs.Places.{IsRange}
use Rattle.zarrs_store.proofs.EntryLemmas.{shown}
use Rattle.zarrs_store.proofs.ListLemmas.{Lists-below}
use Rattle.zarrs_store.proofs.Ranges.{none_left, range_below}
use Rattle.zarrs_store.proofs.memory_store.MemoryStoreListableStorageTraits.list_prefix.Goals as goal

pub returns-clause-ok : goal.returns-clause-ok
returns-clause-ok c =
    let entries = c.self.inside.entries.items in
    let prefix = c.args.prefix.now in
    let first = c.range_counted-first.result.0 in
    let end = c.range_counted-first.result.1 in
    let range = subst (λ s. IsRange (keys_of s) prefix first end) (sym c.self.view_is) c.range_counted-first.ensures.range in
    let is : c.loop-key.below.items ≡ filter (is_below prefix) (keys_of entries) =
    sym (append-nil c.loop-key.below.items) ∙ ap (λ r. c.loop-key.below.items ++ r) (sym (none_left c.loop-key.key-index (slice_range c.as_slice.result.now first end) c.loop-key-test.false))
    ∙ c.loop-key.invariant ∙ ap (λ es. keys_of (slice_range es first end)) c.as_slice.ensures.value
    ∙ sym (range_below (λ v. v.items) entries prefix first end range) in
    subst (λ s. Lists (IsKeyBelow (map.from_entries {R = key_cmp} s) prefix) c.loop-key.below.items) c.self.view_is
    (subst (Lists (IsKeyBelow (map.from_entries {R = key_cmp} (shown (λ v. v.items) entries)) prefix)) (sym is)
    (Lists-below (λ v. v.items) entries prefix c.self.invariant.ascending))
