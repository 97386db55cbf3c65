-- Zarr core specification 3.1, "Hierarchy": which pairs of path and metadata stand below a base with only groups
-- between, of any pairs N: those that paths mean in a store, or the entries of a block.
-- <https://zarr-specs.readthedocs.io/en/latest/v3/core/index.html#hierarchy>
use Rattle.std.specs.Prelude.{◌≡◌, ℕ, Bool, true, List, ◌∷◌, ◌++◌, IsTrue}
use Rattle.zarrs_path.specs.Paths.{Path, IsPath, IsBelow}
use Rattle.zarrs_meta.specs.Node.{is_group}
use Rattle.zarrs_meta.specs.declared.node.NodeMetadata.{NodeMetadata}
use Rattle.zarrs_meaning.specs.Meaning.{Pair}

-- N has a group at q
abbrev pub HasGroup : (Pair → Type 0) → Path → Type 0
HasGroup N q = (m : NodeMetadata) × N (q, m) × IsTrue (is_group m)

-- the way goes on below q: it is recursive, and N has a group at q
abbrev pub Opens : (Pair → Type 0) → Bool → Path → Type 0
Opens N recursive q = IsTrue recursive × HasGroup N q

-- p is b and one or more names, and the way goes on below each path strictly between
pub record Reached (N : Pair → Type 0) (recursive : Bool) (b p : Path) : Type 0 where
  pub below : (n : List ℕ) × (ns : Path) × (p ≡ b ++ n ∷ ns) × IsPath (n ∷ ns)
  pub between : (q : Path) → IsBelow b q → IsBelow q p → Opens N recursive q

-- the pairs of N below b for which every path strictly between is a group of N, where it is recursive; else those
-- with one name beyond b
abbrev pub Kept : (Pair → Type 0) → Bool → Path → Pair → Type 0
Kept N recursive b e = Reached N recursive b e.0 × N e

-- each pair of N is kept: it is below b, and every path strictly between is a group of N
abbrev pub Closed : (Pair → Type 0) → Path → Type 0
Closed N b = (e : Pair) → N e → Kept N true b e
