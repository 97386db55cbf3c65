-- Zarr core specification 3.1, "Node names": names that begin with `__` are reserved. The children of a prefix
-- without those.
-- <https://zarr-specs.readthedocs.io/en/latest/v3/core/index.html#node-names>
use Rattle.std.specs.Prelude.{◌≡◌, ℕ, false, List, [], ◌∷◌, ◌++◌, Contains, All}
use Rattle.std.specs.List.Sorted.{IsStrictlySortedBy}
use Rattle.zarrs_store.specs.Segments.{Segments, key_cmp, is_reserved}
use Rattle.zarrs_store.specs.Contents.{Values, HasChild}

-- the prefix and one segment more, which does not begin with `__` and which some key of the store has there with at
-- least one more behind it
pub record IsVisibleChild (S : Values) (prefix child : Segments) : Type 0 where
  pub name : List ℕ
  pub is : child ≡ prefix ++ name ∷ []
  pub has : HasChild S prefix name
  pub visible : is_reserved name ≡ false

-- the prefixes are exactly the visible children, strictly ascending by segments, so each stands once; they differ in
-- their names only, so this is the order of the names by bytes
pub record AreVisibleChildren (S : Values) (prefix : Segments) (children : List Segments) : Type 0 where
  pub ascending : IsStrictlySortedBy key_cmp children
  pub sound : All (IsVisibleChild S prefix) children
  pub complete : (child : Segments) → IsVisibleChild S prefix child → Contains children child
