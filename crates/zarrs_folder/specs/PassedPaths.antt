-- Zarr core specification 3.1, "Hierarchy": what stands below the paths at which a listing goes no further, and what
-- a part of a store has of it.
-- <https://zarr-specs.readthedocs.io/en/latest/v3/core/index.html#hierarchy>
--     IsPassed S b p      a listing from b comes to p and goes no further, since p has no document, or a bad one
--     IsBelowArray S b p      an array that a listing from b finds stands above p
--     HoldsBelow S L ps      L has each document of a node below one of these paths as S has it
--     HoldsFilesOf S L ps      L has the files of each of these paths as S has them
--     PassedHoldSame      where L has those below all paths that are passed, both have the same documents at each
-- path that is below no array
use Rattle.std.specs.Prelude.{◌≡◌, ◌⊎◌, ℕ, true, false, List, [], ◌∷◌, ◌++◌, Contains}
use Rattle.zarrs_store.specs.Contents.{Contents, Values}
use Rattle.zarrs_path.specs.Paths.{Path, IsPath, IsBelow}
use Rattle.zarrs_path.specs.Keys.{zarr_json, zarray, zgroup}
use Rattle.zarrs_meta.specs.Node.{is_group}
use Rattle.zarrs_meta.specs.declared.node.NodeMetadata.{NodeMetadata}
use Rattle.zarrs_config.specs.declared.version.MetadataRetrieveVersion.TheVariants.{Default}
use Rattle.zarrs_meaning.specs.Meaning.{meaning, node, bad}
use Rattle.zarrs_meaning.specs.declared.node_create_error.NodeCreateError.{NodeCreateError}
use Rattle.zarrs_node.specs.Nodes.{StandsFrom}
use Rattle.zarrs_node.specs.Nodes.{MeansNode, Ignored}
use Rattle.zarrs_node.specs.Reach.{Reached}
use Rattle.zarrs_folder.specs.declared.documents.Documents.TheVariants.{All}
use Rattle.zarrs_folder.specs.PrunedStores.{HasSameFile, HasSameFiles, IsPruned}

-- the files that make a node
abbrev pub node_documents : List (List ℕ)
node_documents = zarr_json ∷ zarray ∷ zgroup ∷ []

-- both have the same at each of the files that make p a node
abbrev pub HasSameDocuments : Values → Values → Path → Type 0
HasSameDocuments V W p = (file : List ℕ) → Contains node_documents file → HasSameFile V W p file

-- L has, below each of these paths, the documents as S has them
abbrev pub HoldsBelow : Values → Values → List Path → Type 0
HoldsBelow V W ps = (p q : Path) → Contains ps p → IsBelow p q → HasSameDocuments V W q

-- L has the files of each of these paths as S has them
abbrev pub HoldsFilesOf : Values → Values → List Path → Type 0
HoldsFilesOf V W ps = (p : Path) → Contains ps p → HasSameFiles V W p

-- a listing from b comes to p and goes no further: p has no document, and a key below it, or its document is bad
abbrev pub IsPassed : Contents → Path → Path → Type 0
IsPassed S b p =
    Ignored S Default true b p
    ⊎ (Reached (MeansNode S Default) true b p × ((e : NodeCreateError) × (meaning S Default p ≡ bad e)))

-- some path above p, at b or reached from it, means an array
abbrev pub IsBelowArray : Contents → Path → Path → Type 0
IsBelowArray S b p =
    (q : Path) × StandsFrom S Default b q × IsBelow q p
    × ((m : NodeMetadata) × (meaning S Default q ≡ node m) × (is_group m ≡ false))

-- Where L is pruned from S, and has the documents below each path that is passed, each path below b that is below no
-- array has the same documents in both.
abbrev pub PassedHoldSame : Type 0
PassedHoldSame =
    (S L : Contents) (b : Path) (ps : List Path) → IsPruned All S L b → HoldsBelow S.values L.values ps
    → ((p : Path) → IsPassed S b p → Contains ps p) → (p n : Path) (x : List ℕ) → p ≡ b ++ x ∷ n → IsPath (x ∷ n)
    → (IsBelowArray S b p → ⊥) → HasSameDocuments S.values L.values p
