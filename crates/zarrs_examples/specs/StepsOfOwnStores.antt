-- Zarr core specification 3.1, "Abstract store interface": the steps of a store of one's own, which is made of entries
-- and listed from all its keys.
-- <https://zarr-specs.readthedocs.io/en/latest/v3/core/index.html#abstract-store-interface>
use Rattle.std.specs.Prelude.{◌≡◌, ◌↔◌, ℕ, ◌-◌, ◌<◌, true, List, Contains, length, take, get_or}
use Rattle.std.specs.FinMap as map
use Rattle.std.specs.Ordering.{is_le}
use Rattle.zarrs_store.specs.Segments.{Segments, key_cmp, IsKey}
use Rattle.zarrs_store.specs.Contents.{HasKey}
use Rattle.zarrs_store.specs.Places.{text_cmp, AreAscending}

-- the store in memory with these entries has just these keys
abbrev pub HasOnly : List (Segments × List ℕ) → List Segments → Type 0
HasOnly es keys = (key : Segments) → HasKey (map.from_entries {R = key_cmp} es) key ↔ Contains keys key

-- the entries before this place ascend, and the key there is not greater than the one before it
pub record IsMisplaced {X : Type 0} (entries : List (Segments × X)) (place : ℕ) : Type 0 where
  pub later : 0 < place
  pub inside : place < length entries
  pub ascending : AreAscending (take place entries)
  pub valid : (d : Segments × X) → IsKey (get_or entries place d).0
  pub is : (d : Segments × X)
      → is_le (text_cmp (get_or entries place d).0 (get_or entries (place - 1) d).0) ≡ true
