-- Zarr core specification 3.1, "Node names", "Paths" and "Storage keys": what holds of all names and paths.
-- <https://zarr-specs.readthedocs.io/en/latest/v3/core/index.html#node-names>
-- <https://zarr-specs.readthedocs.io/en/latest/v3/core/index.html#path>
-- <https://zarr-specs.readthedocs.io/en/latest/v3/core/index.html#storage-keys>
use Rattle.std.specs.Prelude.{◌≡◌, ◌≢◌, ℕ, List, [], ◌∷◌, ◌++◌, IsTrue, Option, Some, None, ◌↔◌, All}
use Rattle.std.specs.declared.cmp.Ordering.TheVariants.{Equal, Less}
use Rattle.std.specs.Cmp.{IsTotalOrder}
use Rattle.std.specs.Hash as fed
use Rattle.zarrs_store.specs.Segments.{key_text}
use Rattle.zarrs_path.specs.Names.{IsName, IsReserved}
use Rattle.zarrs_path.specs.Paths.{Path, IsPath, IsBelow, IsParent, path_text, path_eq, path_cmp, relative_names}
use Rattle.zarrs_path.specs.Paths.{without_leading_slash}
use Rattle.zarrs_fault.specs.Bytes.{period, slash}

-- a text is a name exactly where it is not empty, holds no slash, is not made of periods only and does not begin with
-- `__`
abbrev pub NamesAre : Type 0
NamesAre =
    (n : List ℕ) → IsName n ↔ ((n ≢ []) × All (λ b. b ≢ slash) n × (All (λ b. b ≡ period) n → ⊥) × (IsReserved n → ⊥))

-- a text has one path at most
abbrev pub TextsDiffer : Type 0
TextsDiffer = (p q : Path) → IsPath p → IsPath q → path_text p ≡ path_text q → p ≡ q

-- `==` says whether two paths have the same names
abbrev pub EqualNames : Type 0
EqualNames = (p q : Path) → IsTrue (path_eq p q) ↔ (p ≡ q)

-- two paths are level in the order exactly where they have the same names
abbrev pub EqualOrder : Type 0
EqualOrder = (p q : Path) → (path_cmp p q ≡ Equal) ↔ (p ≡ q)

-- the order of paths is total: turned about it is the reverse, it is transitive, and level paths stand alike to others
abbrev pub TotalOrder : Type 0
TotalOrder = IsTotalOrder path_cmp

-- equal paths feed a hasher alike
abbrev pub HashAlike : Type 0
HashAlike = (p q : Path) → IsTrue (path_eq p q) → fed.str (path_text p) ≡ fed.str (path_text q)

-- a path stands before every path below it
abbrev pub BelowIsAfter : Type 0
BelowIsAfter = (base path : Path) → IsBelow base path → path_cmp base path ≡ Less

-- what is below a path that is below a base is below the base
abbrev pub BelowIsTransitive : Type 0
BelowIsTransitive = (base upper path : Path) → IsBelow base upper → IsBelow upper path → IsBelow base path

-- a path has one parent at most
abbrev pub OneParent : Type 0
OneParent = (p : Path) (r s : Option Path) → IsParent p r → IsParent p s → r ≡ s

-- the root alone has no parent
abbrev pub RootAlone : Type 0
RootAlone = (p : Path) (r : Option Path) → IsParent p r → (r ≡ None) ↔ (p ≡ [])

-- the parent of a path joined with one name is the path
abbrev pub ParentOfJoined : Type 0
ParentOfJoined = (p : Path) (n : List ℕ) (r : Option Path) → IsName n → IsParent (p ++ relative_names n) r → r ≡ Some p

-- keys of documents are equal only where the paths and the names of the documents are
abbrev pub DocumentKeysDiffer : Type 0
DocumentKeysDiffer = (p q : Path) (f g : List ℕ) → p ++ f ∷ [] ≡ q ++ g ∷ [] → (p ≡ q) × (f ≡ g)

-- names joined by slashes are the relative names of that text, also behind one slash
abbrev pub RelativeNamesRead : Type 0
RelativeNamesRead =
    (p : Path) → IsPath p → (relative_names (key_text p) ≡ p) × (relative_names (slash ∷ key_text p) ≡ p)

-- a text is its relative names joined by slashes, after one leading slash is taken off
abbrev pub RelativeNamesJoined : Type 0
RelativeNamesJoined = (rel : List ℕ) → key_text (relative_names rel) ≡ without_leading_slash rel
