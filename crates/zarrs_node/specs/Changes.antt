-- Zarr core specification 3.1, "Metadata": stores that differ by the documents of one path, and the blocks that
-- follow them.
-- <https://zarr-specs.readthedocs.io/en/latest/v3/core/index.html#metadata>
--     AgreesOutside p S T      T is S but for the documents of p
--     AreChanges b S cs, last_of S cs      stores one after another, each with the path below b whose documents
-- changed; the last of them
--     IsRefreshed v b B cs C      C comes of B by making it current after each of them
use Rattle.std.specs.Prelude.{◌≡◌, ℕ, true, List, [], ◌∷◌, ◌++◌, Contains}
use Rattle.std.specs.FinMap.{get}
use Rattle.zarrs_store.specs.Segments.{Segments}
use Rattle.zarrs_store.specs.Contents.{Contents}
use Rattle.zarrs_path.specs.Paths.{Path, IsPath, IsBelow}
use Rattle.zarrs_path.specs.Keys.{zarr_json, zarray, zgroup, zattrs}
use Rattle.zarrs_meta.specs.declared.node.GroupMetadata.{GroupMetadata}
use Rattle.zarrs_meta.specs.declared.node.NodeMetadata.TheVariants.{Group}
use Rattle.zarrs_config.specs.declared.version.MetadataRetrieveVersion.{MetadataRetrieveVersion}
use Rattle.zarrs_config.specs.declared.version.UseConsolidatedMetadata.TheVariants.{Never}
use Rattle.zarrs_block.specs.Block.{Block, IsAscending, IsBlockOf}
use Rattle.zarrs_meaning.specs.Meaning.{meaning}
use Rattle.zarrs_node.specs.Nodes.{Nodes}
use Rattle.zarrs_node.specs.Forest.{Forest, pairs, IsPlaced}
use Rattle.zarrs_node.specs.OpeningNodes.{ShowsBelow}
use Rattle.zarrs_node.specs.CurrentBlocks.{IsFresh}

-- the files that hold the documents of a path
abbrev pub document_files : List (List ℕ)
document_files = zarr_json ∷ zarray ∷ zgroup ∷ zattrs ∷ []

-- the key is that of a document of p
abbrev pub IsDocumentOf : Path → Segments → Type 0
IsDocumentOf p key = (file : List ℕ) × Contains document_files file × (key ≡ p ++ file ∷ [])

-- T has what S has at each key that is not that of a document of p, and its documents may hold the numbers that those
-- of S may
abbrev pub AgreesOutside : Path → Contents → Contents → Type 0
AgreesOutside p S T =
    (T.numbers ≡ S.numbers) × ((key : Segments) → (IsDocumentOf p key → ⊥) → get T.values key ≡ get S.values key)

-- each store agrees with the one before it, the first with S, outside the documents of its path, which is below b
abbrev pub AreChanges : Path → Contents → List (Contents × Path) → Type 0
AreChanges b S [] = Unit {0}
AreChanges b S (c ∷ cs) = IsPath c.1 × IsBelow b c.1 × AgreesOutside c.1 S c.0 × AreChanges b c.0 cs

-- the last store, and S where there is none
abbrev pub last_of : Contents → List (Contents × Path) → Contents
last_of S [] = S
last_of S (c ∷ cs) = last_of c.0 cs

-- C comes of B where it is made current after each change, in the store and at the path of that change
abbrev pub IsRefreshed : MetadataRetrieveVersion → Path → Block → List (Contents × Path) → Block → Type 0
IsRefreshed v b B [] C = B ≡ C
IsRefreshed v b B (c ∷ cs) C = (D : Block) × IsFresh (meaning c.0 v) b B c.1 D × IsRefreshed v b D cs C

-- Where the documents of one path below b changed, the block of the store before, made current there, is the block of
-- the store.
abbrev pub FreshIsBlock : Type 0
FreshIsBlock = (S T : Contents) (v : MetadataRetrieveVersion) (b p : Path) (B C : Block)
    → IsPath p → IsBelow b p → AgreesOutside p S T → IsBlockOf (Nodes S v true b) b B → IsFresh (meaning T v) b B p C
    → IsBlockOf (Nodes T v true b) b C

-- The block of the first store, made current after each of any number of changes, is the block of the last store.
abbrev pub RefreshedIsBlock : Type 0
RefreshedIsBlock = (S : Contents) (v : MetadataRetrieveVersion) (b : Path) (cs : List (Contents × Path)) (B C : Block)
    → AreChanges b S cs → IsBlockOf (Nodes S v true b) b B → IsRefreshed v b B cs C
    → IsBlockOf (Nodes (last_of S cs) v true b) b C

-- The block that `consolidate_metadata` makes of a group opened by a listing, made current after each change, is the
-- one that it makes of the group opened anew in the last store.
abbrev pub RefreshedIsOpened : Type 0
RefreshedIsOpened =
    (S : Contents) (v : MetadataRetrieveVersion) (b : Path) (cs : List (Contents × Path)) (g h : GroupMetadata)
    (e f : Forest) (B C D : Block) → AreChanges b S cs → ShowsBelow S v Never b (Group g) e
    → (IsPlaced b e → IsBlockOf (Contains (pairs e)) b B) → IsRefreshed v b B cs C → IsAscending C
    → ShowsBelow (last_of S cs) v Never b (Group h) f → (IsPlaced b f → IsBlockOf (Contains (pairs f)) b D)
    → IsAscending D → C ≡ D
