-- Zarr core specification 3.1, "Hierarchy": what a listing needs of a store, and what a check does.
-- <https://zarr-specs.readthedocs.io/en/latest/v3/core/index.html#hierarchy>
--     files_in ds V p      the files of the path p that are loaded of V
--     Grows V L M      M has what L has of V, and may have more of it
--     HasBaseOf S L b      L has the documents of b as S has them, and no key that S has not
--     IsPruned ds S L b      L has the files of each path reached from b that are loaded; and a key below each child of
-- a listed path below which S has one
--     IsLoadedFrom ds S L b      L has the base of S, and is pruned from it where b means no array
use Rattle.std.specs.Prelude.{◌≡◌, ℕ, true, false, List, [], ◌∷◌, ◌++◌, Option, Some, None, Contains}
use Rattle.std.specs.FinMap as map
use Rattle.zarrs_store.specs.Segments.{Segments}
use Rattle.zarrs_store.specs.Contents.{Contents, Values, HasKey, HasBelow}
use Rattle.zarrs_path.specs.Paths.{Path}
use Rattle.zarrs_path.specs.Keys.{zarr_json, zarray, zgroup, zattrs, zmetadata}
use Rattle.zarrs_meta.specs.Node.{is_group}
use Rattle.zarrs_meta.specs.declared.node.NodeMetadata.{NodeMetadata}
use Rattle.zarrs_config.specs.declared.version.MetadataRetrieveVersion.TheVariants.{Default}
use Rattle.zarrs_meaning.specs.Meaning.{meaning, node}
use Rattle.zarrs_node.specs.Nodes.{IsListed}
use Rattle.zarrs_node.specs.Nodes.{StandsFrom}
use Rattle.zarrs_write.specs.ReplacingDocuments.{temporary}
use Rattle.zarrs_folder.specs.declared.documents.Documents.{Documents}
use Rattle.zarrs_folder.specs.declared.documents.Documents.TheVariants.{All, Deciding}

-- the documents of a node
abbrev pub node_files : List (List ℕ)
node_files = zarr_json ∷ zarray ∷ zgroup ∷ zattrs ∷ zmetadata ∷ []

-- what a broken-off writing may have left beside them, by what stands at `zarr.json`, at `.zarray` and at `.zgroup`
abbrev pub left_files : Option (List ℕ) → Option (List ℕ) → Option (List ℕ) → List (List ℕ)
left_files (Some bytes) array group = temporary zarr_json ∷ []
left_files None (Some bytes) group = []
left_files None None (Some bytes) = temporary zmetadata ∷ []
left_files None None None = []

-- those that decide what a path means, by what stands at `zarr.json` and at `.zarray`
abbrev pub deciding_files : Option (List ℕ) → Option (List ℕ) → List (List ℕ)
deciding_files (Some bytes) array = zarr_json ∷ []
deciding_files None (Some bytes) = zarr_json ∷ zarray ∷ zattrs ∷ []
deciding_files None None = zarr_json ∷ zarray ∷ zgroup ∷ zattrs ∷ []

-- what V has at the file of this name of p
abbrev pub at_file : Values → Path → List ℕ → Option (List ℕ)
at_file V p file = map.get V (p ++ file ∷ [])

-- the files of p that are loaded of V: all, with what was left beside them, or those that decide what p means
abbrev pub files_in : Documents → Values → Path → List (List ℕ)
files_in All V p = node_files ++ left_files (at_file V p zarr_json) (at_file V p zarray) (at_file V p zgroup)
files_in Deciding V p = deciding_files (at_file V p zarr_json) (at_file V p zarray)

-- each key of the second is one of the first
abbrev pub HasNoOtherKeys : Values → Values → Type 0
HasNoOtherKeys V W = (key : Segments) → HasKey W key → HasKey V key

-- both have the same at the file of this name of p, or both have nothing there
abbrev pub HasSameFile : Values → Values → Path → List ℕ → Type 0
HasSameFile V W p file = at_file W p file ≡ at_file V p file

-- both have the same at each of the documents of the node p
abbrev pub HasSameFiles : Values → Values → Path → Type 0
HasSameFiles V W p = (file : List ℕ) → Contains node_files file → HasSameFile V W p file

-- W has the files of p that are loaded of V as V has them
abbrev pub HasLoaded : Documents → Values → Values → Path → Type 0
HasLoaded ds V W p = (file : List ℕ) → Contains (files_in ds V p) file → HasSameFile V W p file

-- what is loaded grows from L to M as V has it: no key is another than those of V, every key stays, and so does what
-- is as in V
pub record Grows (V L M : Values) : Type 0 where
  pub keys : HasNoOtherKeys V L → HasNoOtherKeys V M
  pub keeps : (key : Segments) → HasKey L key → HasKey M key
  pub same : (key : Segments) → map.get L key ≡ map.get V key → map.get M key ≡ map.get V key

-- L has the numbers of S, no key that S has not, and the documents of b as S has them
pub record HasBaseOf (S L : Contents) (b : Path) : Type 0 where
  pub numbers : L.numbers ≡ S.numbers
  pub keys : HasNoOtherKeys S.values L.values
  pub documents : HasSameFiles S.values L.values b

-- L has the numbers of S, no key that S has not, the files of b and of each path reached from it that are loaded as S
-- has them, and a key below each child of a listed path below which S has one
pub record IsPruned (ds : Documents) (S L : Contents) (b : Path) : Type 0 where
  pub numbers : L.numbers ≡ S.numbers
  pub keys : HasNoOtherKeys S.values L.values
  pub documents : (p : Path) → StandsFrom S Default b p → HasLoaded ds S.values L.values p
  pub children : (g : Path) (n : List ℕ) → IsListed (meaning S Default) true b g → HasBelow S.values (g ++ n ∷ [])
      → HasBelow L.values (g ++ n ∷ [])

-- b means an array
abbrev pub IsArrayAt : Contents → Path → Type 0
IsArrayAt S b = (m : NodeMetadata) × (meaning S Default b ≡ node m) × (is_group m ≡ false)

-- L has the base of S, and is pruned from S where b means no array
pub record IsLoadedFrom (ds : Documents) (S L : Contents) (b : Path) : Type 0 where
  pub base : HasBaseOf S L b
  pub below : (IsArrayAt S b → ⊥) → IsPruned ds S L b
