use Rattle.std.proofs.Common.{◌≡◌, ◌≤◌, ◌+◌, ◌-◌, ◌*◌, length, sym, ◌∙◌, ap, subst, arith}
use Rattle.std.specs.FinMap as map
use Rattle.std.specs.Map.{keys_of}
use Rattle.std.specs.Prelude.{filter}
use Rattle.zarrs_store.specs.Segments.{key_cmp}
use Rattle.zarrs_store.specs.Contents.{Lists, IsChildKey, IsChildPrefix}
use Rattle.zarrs_store.specs.StepsOfStores.{is_child_key, child_prefixes}
use Rattle.zarrs_store.specs.Places.{IsRange, digits, keys_below}
use Rattle.zarrs_store.proofs.EntryLemmas.{shown}
use Rattle.zarrs_store.proofs.ListLemmas.{Lists-child_keys, Lists-child_prefixes}
use Rattle.zarrs_store.proofs.PlaceLemmas.{keys_of-shown}
use Rattle.zarrs_store.proofs.Ranges.{range_count}
use Rattle.zarrs_store.proofs.memory_store.MemoryStore.list_dir_counted.Goals as goal

pub directly_below-requires-clause-range : goal.directly_below-requires-clause-range
directly_below-requires-clause-range c =
    subst (λ ks. IsRange ks c.args.prefix.now c.range_counted-first.result.0 c.range_counted-first.result.1)
    (ap keys_of (sym c.self.view_is) ∙ keys_of-shown (λ v. v.items) c.self.inside.entries.items ∙ ap keys_of (sym c.deref.ensures.value)) c.range_counted-first.ensures.range

pub returns-clause-keys : goal.returns-clause-keys
returns-clause-keys c =
    let entries = c.self.inside.entries.items in
    let p = c.args.prefix.now in
    let is : c.in_ok-dir.dir.keys.items ≡ filter (is_child_key p) (keys_of entries) =
    c.in_ok-dir.ensures.keys ∙ ap (λ es. filter (is_child_key p) (keys_of es)) c.deref.ensures.value in
    subst (λ s. Lists (IsChildKey (map.from_entries {R = key_cmp} s) p) c.in_ok-dir.dir.keys.items) c.self.view_is
    (subst (Lists (IsChildKey (map.from_entries {R = key_cmp} (shown (λ v. v.items) entries)) p)) (sym is)
    (Lists-child_keys (λ v. v.items) entries p c.self.invariant.ascending))

pub returns-clause-prefixes : goal.returns-clause-prefixes
returns-clause-prefixes c =
    let entries = c.self.inside.entries.items in
    let p = c.args.prefix.now in
    let is : c.in_ok-dir.dir.prefixes.items ≡ child_prefixes p (keys_of entries) =
    c.in_ok-dir.ensures.prefixes ∙ ap (λ es. child_prefixes p (keys_of es)) c.deref.ensures.value in
    subst (λ s. Lists (IsChildPrefix (map.from_entries {R = key_cmp} s) p) c.in_ok-dir.dir.prefixes.items) c.self.view_is
    (subst (Lists (IsChildPrefix (map.from_entries {R = key_cmp} (shown (λ v. v.items) entries)) p)) (sym is)
    (Lists-child_prefixes (λ v. v.items) entries p c.self.invariant.valid c.self.invariant.ascending))

pub returns-clause-comparisons : goal.returns-clause-comparisons
returns-clause-comparisons c =
    let entries = c.self.inside.entries.items in
    let p = c.args.prefix.now in
    let first = c.range_counted-first.result.0 in
    let end = c.range_counted-first.result.1 in
    let range : IsRange (keys_of (shown (λ v. v.items) entries)) p first end = subst (λ s. IsRange (keys_of s) p first end) (sym c.self.view_is) c.range_counted-first.ensures.range in
    let count : keys_below p (keys_of c.args.self.now) ≡ end - first =
    ap (λ s. keys_below p (keys_of s)) (sym c.self.view_is) ∙ ap (keys_below p) (keys_of-shown (λ v. v.items) entries) ∙ range_count (λ v. v.items) entries p first end range in
    let keys = length c.in_ok-dir.dir.keys.items in
    let prefixes = length c.in_ok-dir.dir.prefixes.items in
    let walked : c.in_ok-dir.compared ≤ keys + prefixes + prefixes * (2 * digits (keys_below p (keys_of c.args.self.now))) =
    subst (λ m. c.in_ok-dir.compared ≤ keys + prefixes + prefixes * (2 * digits m)) (sym count) c.in_ok-dir.ensures.comparisons in
    omega (arith, walked, c.range_counted-first.ensures.comparisons, c.from.ensures)
