use Rattle.std.proofs.Common.{sym, ◌∙◌, ap, subst}
use Rattle.std.specs.FinMap as map
use Rattle.std.specs.Map.{keys_of}
use Rattle.zarrs_store.specs.Segments.{key_cmp}
use Rattle.zarrs_store.specs.Places.{AreAscending, IsKeyAt, IsKeyGap}
use Rattle.zarrs_store.proofs.EntryLemmas.{shown_map}
use Rattle.zarrs_store.proofs.PlaceLemmas.{ascending_written, map_written, ascending_inserted, map_inserted}
use Rattle.zarrs_store.proofs.memory_store.MemoryStore.insert.Goals as goal

-- the bytes of the key are replaced
pub invariant_of-self : goal.invariant_of-self
invariant_of-self c =
    ascending_written (λ v. v.items) c.self.inside.entries.items c.self.invariant c.args.key c.as_str-valid.ensures.valid c.in-Ok.at
    (subst (λ s. IsKeyAt (keys_of s) c.args.key c.in-Ok.at) (sym c.self.view_is) c.in-Ok.ensures.found) c.index_mut.result.now c.args.bytes c.index_mut.ensures.value

pub returns-in-Ok-clause-ok : goal.returns-in-Ok-clause-ok
returns-in-Ok-clause-ok c =
    map_written (λ v. v.items) c.self.inside.entries.items c.self.invariant c.args.key c.as_str-valid.ensures.valid c.in-Ok.at
    (subst (λ s. IsKeyAt (keys_of s) c.args.key c.in-Ok.at) (sym c.self.view_is) c.in-Ok.ensures.found) c.index_mut.result.now c.args.bytes c.index_mut.ensures.value
    ∙ ap (λ s. map.insert (map.from_entries {R = key_cmp} s) c.args.key c.args.bytes.items) c.self.view_is

-- the key is put where it would stand
pub invariant_of-self-in-Continue-1 : goal.invariant_of-self-in-Continue-1
invariant_of-self-in-Continue-1 c =
    subst AreAscending (sym c.in_ok-insert-in-Err.ensures.items)
    (ascending_inserted (λ v. v.items) c.self.inside.entries.items c.self.invariant c.args.key c.as_str-valid.ensures.valid c.in-Err.at
    (subst (λ s. IsKeyGap (keys_of s) c.args.key c.in-Err.at) (sym c.self.view_is) c.in-Err.ensures.absent) c.args.bytes)

pub returns-in_ok-insert-in-Err-clause-ok : goal.returns-in_ok-insert-in-Err-clause-ok
returns-in_ok-insert-in-Err-clause-ok c =
    ap (shown_map (λ v. v.items)) c.in_ok-insert-in-Err.ensures.items
    ∙ map_inserted (λ v. v.items) c.self.inside.entries.items c.self.invariant c.args.key c.as_str-valid.ensures.valid c.in-Err.at
    (subst (λ s. IsKeyGap (keys_of s) c.args.key c.in-Err.at) (sym c.self.view_is) c.in-Err.ensures.absent) c.args.bytes
    ∙ ap (λ s. map.insert (map.from_entries {R = key_cmp} s) c.args.key c.args.bytes.items) c.self.view_is
