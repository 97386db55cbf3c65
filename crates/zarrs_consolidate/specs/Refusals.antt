-- Zarr core specification 3.1, "Group metadata", with zarr-python's field `consolidated_metadata`: why it is not known
-- what becomes of the block of a group.
-- <https://zarr-specs.readthedocs.io/en/latest/v3/core/index.html#group-metadata>
-- <https://zarr.readthedocs.io/en/stable/user-guide/consolidated_metadata/>
--     RefusesPlan can_fail s task b e      why it is not known over a store
--     RefusesPlanOfEach P task b e, RefusesPlanOfSome task b e      why it is not over a folder
use Rattle.std.specs.Prelude.{◌≡◌, ◌<◌, ◌⊎◌, ⊤, Bool, true, false, Option, Some, None, string_bytes}
use Rattle.serde_json.specs.Data.{Data, depth}
use Rattle.serde_json.specs.Read.{max_depth}
use Rattle.zarrs_store.specs.Contents.{Contents, Values}
use Rattle.zarrs_store.specs.Segments.{Segments}
use Rattle.zarrs_path.specs.Paths.{Path, path_text}
use Rattle.zarrs_config.specs.declared.version.MetadataRetrieveVersion.TheVariants.{Default}
use Rattle.zarrs_meta.specs.declared.node.GroupMetadata.{GroupMetadata}
use Rattle.zarrs_meta.specs.declared.node.NodeMetadata.{NodeMetadata}
use Rattle.zarrs_meta.specs.declared.node.NodeMetadata.TheVariants.{Group}
use Rattle.zarrs_meta.specs.Node.{is_group}
use Rattle.zarrs_block.specs.Block.{Block}
use Rattle.zarrs_meaning.specs.Meaning.{meaning, node}
use Rattle.zarrs_meaning.specs.Refusals.{IsExcused}
use Rattle.zarrs_node.specs.ListedBlocks.{IsListedBlock}
use Rattle.zarrs_node.specs.Nodes.{ShowsBad}
use Rattle.zarrs_node.specs.OpeningNodes.{RefusesNode}
use Rattle.zarrs_group.specs.BlockDocuments.{block_document}
use Rattle.zarrs_group.specs.BlocksOfGroups.{RefusesBlock}
use Rattle.zarrs_group.specs.Groups.{GroupState}
use Rattle.zarrs_folder.specs.Folders.{in_any, IsFaultOfFolder}
use Rattle.zarrs_consolidate.specs.Plans.{group_holding}
use Rattle.zarrs_consolidate.specs.declared.fault.ConsolidateError.{ConsolidateError}
use Rattle.zarrs_consolidate.specs.declared.fault.ConsolidateError.TheVariants.{Folder, Node, NotAGroup, TooDeep}
use Rattle.zarrs_consolidate.specs.declared.fault.ConsolidateError.TheVariants.{Block as NoBlock, OutOfMemory}
use Rattle.zarrs_consolidate.specs.declared.plan.Task.{Task}
use Rattle.zarrs_consolidate.specs.declared.plan.Task.TheVariants.{Write, Remove}

-- the block that is set: the listed one, or none
abbrev pub block_set : Task → Block → Option Block
block_set Write B = Some B
block_set Remove B = None

-- b means an array
abbrev pub MeansArray : Contents → Path → Type 0
MeansArray s b = (m : NodeMetadata) × (meaning s Default b ≡ node m) × (is_group m ≡ false)

-- b means a group, of which this holds with the block that is set
abbrev pub HoldsOfGroup : Contents → Task → Path → (GroupMetadata → Option Block → Type 0) → Type 0
HoldsOfGroup s task b P =
    (m : GroupMetadata) × (B : Block) × (meaning s Default b ≡ node (Group m)) × IsListedBlock s Default b B
    × P m (block_set task B)

-- the document that holds the block of the group nests deeper than any that is read
abbrev pub HasDeepDocument : GroupState → Type 0
HasDeepDocument g =
    (key : Segments) × (d : Data) × (block_document g ≡ Some (key, d)) × (max_depth < depth d)

-- The node at b is refused, or it is an array; or it is a group, and the listing below it is refused, or the group does
-- not take the block, or with it has a document that nests too deep; or out of memory. The fault of a store that can
-- fail is excused.
abbrev pub RefusesPlan : Bool → Contents → Task → Path → ConsolidateError → Type 0
RefusesPlan can_fail s task b (Folder fault) = ⊥
RefusesPlan can_fail s task b (Node e) = IsExcused can_fail e ⊎ RefusesNode s Default b e
    ⊎ ((m : GroupMetadata) × (meaning s Default b ≡ node (Group m)) × ShowsBad s Default true b e)
RefusesPlan can_fail s task b (NotAGroup path) = MeansArray s b × (string_bytes path ≡ path_text b)
RefusesPlan can_fail s task b (NoBlock e) = HoldsOfGroup s task b (λ m block. RefusesBlock m block e)
RefusesPlan can_fail s task b TooDeep =
    HoldsOfGroup s task b (λ m block. HasDeepDocument (group_holding b m block))
RefusesPlan can_fail s task b OutOfMemory = ⊤

-- a folder or a file was not read
abbrev pub IsUnread : ConsolidateError → Type 0
IsUnread (Folder fault) = ⊤
IsUnread _ = ⊥

-- what a folder may refuse, where it was not read
abbrev pub IsOfFolder : Bool → ConsolidateError → Type 0
IsOfFolder can_fail (Folder fault) = IsFaultOfFolder can_fail fault
IsOfFolder can_fail _ = ⊤

-- a folder or a file was not read; or it is refused over each store that holds what P says
abbrev pub RefusesPlanOfEach : (Values → Type 0) → Task → Path → ConsolidateError → Type 0
RefusesPlanOfEach P task b e = IsUnread e ⊎ ((V : Values) → P V → RefusesPlan false (in_any V) task b e)

-- a folder or a file was not read; or it is refused over a store
abbrev pub RefusesPlanOfSome : Task → Path → ConsolidateError → Type 0
RefusesPlanOfSome task b e = IsUnread e ⊎ ((V : Values) × RefusesPlan false (in_any V) task b e)
