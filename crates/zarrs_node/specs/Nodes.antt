-- Zarr core specification 3.1, "Hierarchy" and "Node names": what a listing below a base is to find, and what it is
-- to refuse.
-- What paths mean is any function; `..In` takes it and, where it matters, which paths have a key below them. Those of
-- a store of bytes stand last.
-- <https://zarr-specs.readthedocs.io/en/latest/v3/core/index.html#hierarchy>
-- <https://zarr-specs.readthedocs.io/en/latest/v3/core/index.html#node-names>
use Rattle.std.specs.Prelude.{◌≡◌, ◌≢◌, ℕ, Bool, true, List, [], ◌∷◌, ◌++◌, IsTrue, ◌⊎◌}
use Rattle.zarrs_store.specs.Contents.{Contents, HasBelow}
use Rattle.zarrs_path.specs.Names.{is_all_periods}
use Rattle.zarrs_path.specs.Paths.{Path}
use Rattle.zarrs_config.specs.declared.version.MetadataRetrieveVersion.{MetadataRetrieveVersion}
use Rattle.zarrs_meaning.specs.declared.node_create_error.NodeCreateError.{NodeCreateError}
use Rattle.zarrs_meaning.specs.Meaning.{Meaning, meaning, nothing, bad}
use Rattle.zarrs_node.specs.Reach.{Reached, Opens, Kept}
use Rattle.zarrs_meaning.specs.Refusals.{IsInvalidPath}
use Rattle.zarrs_meaning.specs.Meaning.{Pair}
-- `Means of`: the paths that mean nodes, with their metadata
pub use Rattle.zarrs_meaning.specs.Meaning.{Means}

-- the reached paths that mean nothing and have a key below them
abbrev pub IgnoredIn : (Path → Meaning) → (Path → Type 0) → Bool → Path → Path → Type 0
IgnoredIn of has recursive b p = Reached (Means of) recursive b p × (of p ≡ nothing) × has p

-- a reached path means `bad e`
abbrev pub HasBadDocument : (Path → Meaning) → Bool → Path → NodeCreateError → Type 0
HasBadDocument of recursive b e = (p : Path) × Reached (Means of) recursive b p × (of p ≡ bad e)

-- b, or a reached path below which the listing goes on
abbrev pub IsListed : (Path → Meaning) → Bool → Path → Path → Type 0
IsListed of recursive b g = (g ≡ b) ⊎ (Reached (Means of) recursive b g × Opens (Means of) recursive g)

-- p is a listed path with one segment behind it, of one or more periods and nothing else, and p is one of those that
-- have a key below them
abbrev pub IsBadName : (Path → Meaning) → (Path → Type 0) → Bool → Path → Path → Type 0
IsBadName of has recursive b p =
    (g : Path) × (n : List ℕ) × IsListed of recursive b g × IsTrue (is_all_periods n) × has (g ++ n ∷ [])
    × (p ≡ g ++ n ∷ []) × (n ≢ [])

-- some reached path means `bad e`, or some child of a listed path has a name of periods only
abbrev pub BadIn : (Path → Meaning) → (Path → Type 0) → Bool → Path → Type 0
BadIn of has recursive b =
    ((e : NodeCreateError) × HasBadDocument of recursive b e) ⊎ ((p : Path) × IsBadName of has recursive b p)

-- the refusal e is what a reached path means, or names the path of a child with a name of periods only
abbrev pub ShowsBadIn : (Path → Meaning) → (Path → Type 0) → Bool → Path → NodeCreateError → Type 0
ShowsBadIn of has recursive b e =
    HasBadDocument of recursive b e ⊎ ((p : Path) × IsBadName of has recursive b p × IsInvalidPath p e)

-- ---- in a store, by the documents that a version admits

-- the paths that mean nodes, with their metadata
abbrev pub MeansNode : Contents → MetadataRetrieveVersion → Pair → Type 0
MeansNode s v = Means (meaning s v)

-- the reached paths that mean nodes, with their metadata
abbrev pub Nodes : Contents → MetadataRetrieveVersion → Bool → Path → Pair → Type 0
Nodes s v = Kept (MeansNode s v)

-- the reached paths that mean nothing and are a beginning of some key with at least one segment more
abbrev pub Ignored : Contents → MetadataRetrieveVersion → Bool → Path → Path → Type 0
Ignored s v = IgnoredIn (meaning s v) (HasBelow s.values)

-- some reached path means `bad e`, or some child of a listed path has a name of periods only
abbrev pub Bad : Contents → MetadataRetrieveVersion → Bool → Path → Type 0
Bad s v = BadIn (meaning s v) (HasBelow s.values)

-- no reached path means `bad e`, and no child of a listed path has a name of periods only
abbrev pub HasNothingBad : Contents → MetadataRetrieveVersion → Bool → Path → Type 0
HasNothingBad s v recursive b = Bad s v recursive b → ⊥

-- the refusal e is what a reached path means, or names the path of a child with a name of periods only
abbrev pub ShowsBad : Contents → MetadataRetrieveVersion → Bool → Path → NodeCreateError → Type 0
ShowsBad s v = ShowsBadIn (meaning s v) (HasBelow s.values)

-- ---- a node and those below it

-- p is b, or is reached from it
abbrev pub StandsFrom : Contents → MetadataRetrieveVersion → Path → Path → Type 0
StandsFrom s v b p = (p ≡ b) ⊎ Reached (MeansNode s v) true b p

-- b and the reached paths, where they mean nodes, with their metadata
abbrev pub NodesFrom : Contents → MetadataRetrieveVersion → Path → Pair → Type 0
NodesFrom s v b e = StandsFrom s v b e.0 × MeansNode s v e
