-- Steps of loading: how far a walk is; no public contract rests on them.
use Rattle.std.specs.Prelude.{◌≡◌, ◌⊎◌, ◌||◌, ℕ, Bool, true, false, List, [], ◌∷◌, ◌++◌, is_some, Contains}
use Rattle.zarrs_store.specs.Segments.{Segments}
use Rattle.zarrs_store.specs.Contents.{Values, HasBelow}
use Rattle.zarrs_path.specs.Paths.{Path, IsBelow}
use Rattle.zarrs_path.specs.Keys.{zarr_json, zarray, zgroup}
use Rattle.zarrs_config.specs.declared.version.MetadataRetrieveVersion.TheVariants.{Default}
use Rattle.zarrs_meta.specs.Node.{is_group}
use Rattle.zarrs_meta.specs.declared.node.NodeMetadata.{NodeMetadata}
use Rattle.zarrs_meaning.specs.Meaning.{meaning, node}
use Rattle.zarrs_node.specs.Nodes.{IsListed}
use Rattle.zarrs_node.specs.Nodes.{StandsFrom}
use Rattle.zarrs_folder.specs.Folders.{in_any}
use Rattle.zarrs_folder.specs.PrunedStores.{HasNoOtherKeys, HasSameFile, HasSameFiles, at_file, files_in}
use Rattle.zarrs_folder.specs.declared.documents.Documents.{Documents}
use Rattle.zarrs_folder.specs.declared.read.Found.{Found}
use Rattle.zarrs_folder.specs.PassedPaths.{node_documents}

-- which documents V has at p: zarr.json; that or .zarray; one of these or .zgroup
pub record HasFound (V : Values) (p : Path) (found : Found) : Type 0 where
  pub zarr_json : found.zarr_json ≡ is_some (at_file V p zarr_json)
  pub array : found.array ≡ is_some (at_file V p zarray) || found.zarr_json
  pub group : found.group ≡ is_some (at_file V p zgroup) || found.array

-- x is one of the prefixes that are below b, or begins with one
abbrev pub IsAhead : Path → List Segments → Segments → Type 0
IsAhead b qs x = (q : Segments) × Contains qs q × IsBelow b q × ((rest : Segments) × (x ≡ q ++ rest))

-- the documents of b are loaded, and what is not loaded yet lies at or below a prefix that is still ahead
pub record IsLoadedButAhead (ds : Documents) (V : Values) (b : Path) (L : Values) (qs : List Segments) : Type 0 where
  pub keys : HasNoOtherKeys V L
  pub base : HasSameFiles V L b
  pub documents : (p : Path) → StandsFrom (in_any V) Default b p → (file : List ℕ) → Contains (files_in ds V p) file
      → HasSameFile V L p file ⊎ IsAhead b qs p
  pub children : (g : Path) (n : List ℕ) → IsListed (meaning (in_any V) Default) true b g → HasBelow V (g ++ n ∷ [])
      → HasBelow L (g ++ n ∷ []) ⊎ IsAhead b qs (g ++ n ∷ [])

-- where p may be no group, no metadata that it means in V are those of a group
abbrev pub MayBeGroup : Values → Path → Bool → Type 0
MayBeGroup V p may = may ≡ false → (m : NodeMetadata) → meaning (in_any V) Default p ≡ node m → is_group m ≡ false

-- x is one of these prefixes, or begins with one
abbrev pub LiesAhead : List Segments → Segments → Type 0
LiesAhead qs x = (q : Segments) × Contains qs q × ((rest : Segments) × (x ≡ q ++ rest))

-- what L has not yet of the documents below p lies at or below a prefix that is still ahead
pub record HoldsButAhead (V : Values) (p : Path) (L : Values) (qs : List Segments) : Type 0 where
  pub keys : HasNoOtherKeys V L
  pub documents : (q : Path) → IsBelow p q → (file : List ℕ) → Contains node_documents file
      → HasSameFile V L q file ⊎ LiesAhead qs q
