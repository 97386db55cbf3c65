-- Zarr core specification 3.1, "Group metadata", with zarr-python's field `consolidated_metadata`: how the keys of a
-- block are read as paths below a base.
-- <https://zarr-specs.readthedocs.io/en/latest/v3/core/index.html#group-metadata>
-- <https://zarr.readthedocs.io/en/stable/user-guide/consolidated_metadata/>
use Rattle.std.specs.Prelude.{if◌then◌else◌, ◌≢◌, ℕ, Bool, false, ◌&&◌, ◌||◌, List, [], ◌∷◌, ◌++◌, Option, Some, None}
use Rattle.std.specs.Prelude.{is_some, IsSome, AllPairs, map}
use Rattle.zarrs_store.specs.Segments.{is_slash}
use Rattle.zarrs_path.specs.Paths.{Path, relative_names}
use Rattle.zarrs_path.specs.PathErrors.{RefusesJoin}
use Rattle.zarrs_path.specs.declared.node_path.NodePathError.TheVariants.{Invalid as InvalidPath}
use Rattle.zarrs_path.specs.declared.node_path.NodePathError.TheVariants.{OutOfMemory as NoPathMemory}
use Rattle.zarrs_meta.specs.declared.node.NodeMetadata.{NodeMetadata}
use Rattle.zarrs_form.specs.Forms.{is_nil}
use Rattle.zarrs_block.specs.Block.{Block, node_at_key, IsValidKey}
use Rattle.zarrs_meaning.specs.declared.node_create_error.NodeCreateError.{NodeCreateError}
use Rattle.zarrs_meaning.specs.declared.node_create_error.NodeCreateError.TheVariants.{NodePathError, OutOfMemory}
use Rattle.zarrs_meaning.specs.Meaning.{Pair}

-- some key of the block is not valid, and the error names its first part that is no name
abbrev pub NamesBadKey : Block → NodeCreateError → Type 0
NamesBadKey B (NodePathError (InvalidPath text)) =
    (t : List ℕ) × IsSome (node_at_key B t) × (IsValidKey t → ⊥) × RefusesJoin t (InvalidPath text)
NamesBadKey B _ = ⊥

-- some key of the block is not valid, and the error names its first part that is no name; or out of memory
abbrev pub RefusesKeys : Block → NodeCreateError → Type 0
RefusesKeys B (NodePathError (InvalidPath text)) = NamesBadKey B (NodePathError (InvalidPath text))
RefusesKeys B (NodePathError NoPathMemory) = Unit {0}
RefusesKeys B OutOfMemory = Unit {0}
RefusesKeys B _ = ⊥

-- the paths of the pairs differ
abbrev pub HaveOwnPaths : List Pair → Type 0
HaveOwnPaths es = AllPairs (λ d e. d.0 ≢ e.0) es

-- ---- parts

-- the key begins with a slash, and the block has what stands behind that
abbrev pub is_covered : Block → List ℕ → Bool
is_covered B [] = false
is_covered B (c ∷ t) = is_slash c && is_some (node_at_key B t)

-- the path that a key adds: none for the base's own keys, and for a key that a key without a slash covers
abbrev pub path_at : Path → Block → List ℕ → Option Path
path_at b B t = if is_nil (relative_names t) || is_covered B t then None else Some (b ++ relative_names t)

-- the path of each key of the entries
abbrev pub paths_at : Path → Block → Block → List (Option Path)
paths_at b B es = map (λ e. path_at b B e.0) es

-- a pair before others, where there is a path
abbrev pub with_pair : Option Path → NodeMetadata → List Pair → List Pair
with_pair None m es = es
with_pair (Some p) m es = (p, m) ∷ es

-- the paths that there are, with the metadata of the entries
abbrev pub pairs_at : List (Option Path) → Block → List Pair
pairs_at [] es = []
pairs_at (p ∷ ps) [] = []
pairs_at (p ∷ ps) (e ∷ es) = with_pair p e.1 (pairs_at ps es)
