-- Zarr core specification 3.1, "Hierarchy", and "Group metadata", with zarr-python's field `consolidated_metadata`:
-- what a store answers in the place of the one that it was loaded from.
-- <https://zarr-specs.readthedocs.io/en/latest/v3/core/index.html#hierarchy>
-- <https://zarr-specs.readthedocs.io/en/latest/v3/core/index.html#group-metadata>
-- <https://zarr.readthedocs.io/en/stable/user-guide/consolidated_metadata/>
--     ListSame S L b      both stores list the same below b
--     OpenSame S L policy b      both stores open the same at b
--     AnswerSame S L policy b      what they show there, and what they refuse, is the same
use Rattle.std.specs.Prelude.{◌≡◌, ◌↔◌, true}
use Rattle.zarrs_store.specs.Contents.{Contents}
use Rattle.zarrs_path.specs.Paths.{Path, IsPath, path_text}
use Rattle.zarrs_meta.specs.declared.node.GroupMetadata.{GroupMetadata}
use Rattle.zarrs_meta.specs.declared.node.NodeMetadata.{NodeMetadata}
use Rattle.zarrs_meta.specs.declared.node.NodeMetadata.TheVariants.{Group}
use Rattle.zarrs_config.specs.declared.version.MetadataRetrieveVersion.TheVariants.{Default}
use Rattle.zarrs_config.specs.declared.version.UseConsolidatedMetadata.{UseConsolidatedMetadata}
use Rattle.zarrs_block.specs.Block.{Block}
use Rattle.zarrs_block.specs.Policy.{use_block, list_store}
use Rattle.zarrs_meaning.specs.Meaning.{meaning, node}
use Rattle.zarrs_meaning.specs.declared.node_create_error.NodeCreateError.{NodeCreateError}
use Rattle.zarrs_node.specs.Forest.{Forest}
use Rattle.zarrs_node.specs.ListedBlocks.{IsListedBlock}
use Rattle.zarrs_node.specs.Nodes.{NodesFrom}
use Rattle.zarrs_node.specs.Nodes.{Nodes, HasNothingBad, ShowsBad}
use Rattle.zarrs_node.specs.OpeningNodes.{choice, ShowsBelow, IsCleanBelow, RefusesBelow, RefusesNode, RefusesOpening}
use Rattle.zarrs_folder.specs.PrunedStores.{HasBaseOf, IsLoadedFrom}
use Rattle.zarrs_folder.specs.Laws.{ShowSame, ShowSameNodes}
use Rattle.zarrs_folder.specs.declared.documents.Documents.{Documents}
use Rattle.zarrs_meaning.specs.Meaning.{Pair}

-- below b both stores have the same nodes; something bad is in both or in neither; and the same refuses a listing
pub record ListSame (S L : Contents) (b : Path) : Type 0 where
  pub nodes : (e : Pair) → Nodes L Default true b e ↔ Nodes S Default true b e
  pub clean : HasNothingBad L Default true b ↔ HasNothingBad S Default true b
  pub refusals : (e : NodeCreateError) → ShowsBad L Default true b e ↔ ShowsBad S Default true b e

-- b means the same in both stores, and by the policy the same is chosen there; where b means a group below which the
-- choice is to list the store, both list the same below b
pub record OpenSame (S L : Contents) (policy : UseConsolidatedMetadata) (b : Path) : Type 0 where
  pub means : meaning L Default b ≡ meaning S Default b
  pub choices : (m : NodeMetadata) → choice L policy b m ≡ choice S policy b m
  pub listed : (g : GroupMetadata) → meaning S Default b ≡ node (Group g) → choice S policy b (Group g) ≡ list_store
      → ListSame S L b

-- where b means a node with these metadata, what is shown below it is the same in both stores, and so is what is
-- refused there
pub record ShowBelowSame (S L : Contents) (policy : UseConsolidatedMetadata) (b : Path)
    (m : NodeMetadata) : Type 0 where
  pub shown : (f : Forest) → ShowsBelow L Default policy b m f ↔ ShowsBelow S Default policy b m f
  pub clean : IsCleanBelow L Default policy b m ↔ IsCleanBelow S Default policy b m
  pub refused : (e : NodeCreateError) → RefusesBelow L Default policy b m e ↔ RefusesBelow S Default policy b m e

-- the same refuses b itself in both stores; where b means a node, the same is shown and refused below it; and the
-- same refuses opening the text of b
pub record AnswerSame (S L : Contents) (policy : UseConsolidatedMetadata) (b : Path) : Type 0 where
  pub refused_node : (e : NodeCreateError) → RefusesNode L Default b e ↔ RefusesNode S Default b e
  pub below : (m : NodeMetadata) → meaning S Default b ≡ node m → ShowBelowSame S L policy b m
  pub refused : IsPath b → (e : NodeCreateError) → RefusesOpening L Default policy (path_text b) e
      ↔ RefusesOpening S Default policy (path_text b) e

-- Stores that show the same nodes list the same, and have the same nodes from the base on.
abbrev pub ShownListSame : Type 0
ShownListSame =
    (S L : Contents) (b : Path) → ShowSameNodes S L b
    → ListSame S L b × ((e : Pair) → NodesFrom L Default b e ↔ NodesFrom S Default b e)

-- Stores that list the same have the same listed block.
abbrev pub ListedBlockIsSame : Type 0
ListedBlockIsSame =
    (S L : Contents) (b : Path) (B : Block) → ListSame S L b → IsListedBlock L Default b B ↔ IsListedBlock S Default b B

-- Stores that show the same from b on open the same there, by any policy.
abbrev pub ShownOpenSame : Type 0
ShownOpenSame =
    (S L : Contents) (b : Path) → ShowSame S L b → (policy : UseConsolidatedMetadata) → OpenSame S L policy b

-- A store opens at the base as the store that it was loaded from, whichever documents were: an array too, below which
-- nothing was loaded.
abbrev pub LoadedOpensSame : Type 0
LoadedOpensSame =
    (ds : Documents) (S L : Contents) (b : Path) → IsLoadedFrom ds S L b
    → (policy : UseConsolidatedMetadata) → OpenSame S L policy b

-- A store with the base of another opens there as the other, where no group is opened by a listing.
abbrev pub BaseOpensSame : Type 0
BaseOpensSame = (S L : Contents) (b : Path) → HasBaseOf S L b
    → (policy : UseConsolidatedMetadata)
    → ((g : GroupMetadata) → meaning L Default b ≡ node (Group g) → choice L policy b (Group g) ≡ list_store → ⊥)
    → OpenSame S L policy b

-- A store with the base of another opens there as the other, where a block is used.
abbrev pub BlockOpensSame : Type 0
BlockOpensSame = (S L : Contents) (b : Path) → HasBaseOf S L b
    → (policy : UseConsolidatedMetadata) (m : NodeMetadata) (B : Block) → meaning L Default b ≡ node m
    → choice L policy b m ≡ use_block B → OpenSame S L policy b

-- Stores that open the same answer the same.
abbrev pub OpenedAnswerSame : Type 0
OpenedAnswerSame =
    (S L : Contents) (policy : UseConsolidatedMetadata) (b : Path) → OpenSame S L policy b → AnswerSame S L policy b
