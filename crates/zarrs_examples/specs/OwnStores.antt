-- Zarr core specification 3.1, "Abstract store interface": a store that is a list of entries, and what refuses it.
-- <https://zarr-specs.readthedocs.io/en/latest/v3/core/index.html#abstract-store-interface>
--     ListedEntries, listed_entries, contents_of      the entries of such a store, and what it holds
--     StandsBehind, RefusesEntries      where the first key stands that does not ascend, and why entries make no store
use Rattle.std.specs.Prelude.{◌≡◌, ℕ, ◌+◌, List, map, take}
use Rattle.std.specs.FinMap as finite
use Rattle.std.specs.Global.{Vec}
use Rattle.std.specs.declared.cmp.Ordering.TheVariants.{Greater}
use Rattle.std.specs.List.Sorted.{IsStrictlySortedBy}
use Rattle.zarrs_fault.specs.declared.numbers.Numbers.{Numbers}
use Rattle.zarrs_store.specs.Segments.{Segments}
use Rattle.zarrs_store.specs.Contents.{Contents}
use Rattle.zarrs_store.specs.Places.{text_cmp, IsKeyAt}
use Rattle.zarrs_examples.specs.declared.own_store.ListStoreError.{ListStoreError}
use Rattle.zarrs_examples.specs.declared.own_store.ListStoreError.TheVariants.{Double, Unordered}

-- entries, each a key with its bytes, and which numbers the documents among the bytes may hold
pub record ListedEntries : Type 0 where
  pub entries : List (Segments × List ℕ)
  pub numbers : Numbers

-- the entries of a vector, each key with its bytes as a list
abbrev pub listed_entries : List (Segments × Vec ℕ) → List (Segments × List ℕ)
listed_entries es = map (λ e. (e.0, e.1.items)) es

-- the store that has each key of these entries with its bytes, and no other key; its documents may hold these numbers
abbrev pub contents_of : ListedEntries → Contents
contents_of s = record { values = finite.from_entries s.entries; numbers = s.numbers }

-- the keys ascend by their texts as far as `last`, and `key` stands right behind it
pub record StandsBehind (keys : List Segments) (last key : Segments) : Type 0 where
  pub place : ℕ
  pub before : IsKeyAt keys last place
  pub is : IsKeyAt keys key (place + 1)
  pub ascending : IsStrictlySortedBy text_cmp (take (place + 1) keys)

-- the error has the first key that is not greater than the one before it: the same key stands before it, or a greater
-- one
abbrev pub RefusesEntries : List Segments → ListStoreError → Type 0
RefusesEntries keys (Double key) = StandsBehind keys key key
RefusesEntries keys (Unordered key) =
    (last : Segments) × StandsBehind keys last key × (text_cmp last key ≡ Greater)
