-- Zarr core specification 3.1, "Group metadata", with zarr-python's field `consolidated_metadata` and document
-- `.zmetadata` of version 2: what becomes of the document that holds the block of a group.
-- <https://zarr-specs.readthedocs.io/en/latest/v3/core/index.html#group-metadata>
-- <https://zarr.readthedocs.io/en/stable/user-guide/consolidated_metadata/>
--     block_file m      the name of the document that holds the block of a group
--     IsWithBlock b m block bytes      the bytes are the document of the group at b with a block, or without one
--     IsToStand task b m B old new      what is to stand there, where this stands there
--     IsPlan s task b plan      the plan is what becomes of the block of the group at b
use Rattle.std.specs.Prelude.{◌≡◌, ◌≢◌, ◌⊎◌, ℕ, List, [], ◌∷◌, ◌++◌, Option, Some, None, length, codes}
use Rattle.std.specs.FinMap as map
use Rattle.serde_json.specs.Find.{get_member}
use Rattle.zarrs_store.specs.Contents.{Contents}
use Rattle.zarrs_path.specs.Keys.{zarr_json, zmetadata}
use Rattle.zarrs_path.specs.Paths.{Path}
use Rattle.zarrs_config.specs.Settings.{default_settings}
use Rattle.zarrs_config.specs.declared.version.MetadataRetrieveVersion.TheVariants.{Default}
use Rattle.zarrs_meta.specs.declared.node.GroupMetadata.{GroupMetadata}
use Rattle.zarrs_meta.specs.declared.node.GroupMetadata.TheVariants.{V3, V2}
use Rattle.zarrs_meta.specs.declared.node.NodeMetadata.TheVariants.{Group}
use Rattle.zarrs_block.specs.Block.{Block}
use Rattle.zarrs_meaning.specs.Meaning.{meaning, node}
use Rattle.zarrs_node.specs.ListedBlocks.{IsListedBlock}
use Rattle.zarrs_group.specs.BlockDocuments.{IsBlockDocument}
use Rattle.zarrs_group.specs.Children.{group_at}
use Rattle.zarrs_group.specs.FullBlocks.{with_full_block}
use Rattle.zarrs_group.specs.Groups.{GroupState}
use Rattle.zarrs_write.specs.ReplacingDocuments.{bytes_in}
use Rattle.zarrs_consolidate.specs.declared.plan.Plan.{Plan}
use Rattle.zarrs_consolidate.specs.declared.plan.Task.{Task}
use Rattle.zarrs_consolidate.specs.declared.plan.Task.TheVariants.{Write, Remove}

-- the name of the document that holds the block of a group: of version 3 that of the group itself
abbrev pub block_file : GroupMetadata → List ℕ
block_file (V3 m) = zarr_json
block_file (V2 m) = zmetadata

-- the group at b with these metadata, and with a block in full or without one
abbrev pub group_holding : Path → GroupMetadata → Option Block → GroupState
group_holding b m block = with_full_block (group_at default_settings b m) block

-- the bytes are the document that holds the block of this group: with a block, or of version 3 without one
abbrev pub IsWithBlock : Path → GroupMetadata → Option Block → List ℕ → Type 0
IsWithBlock b m block bytes = IsBlockDocument (group_holding b m block) (b ++ block_file m ∷ []) bytes

-- What is to stand where the block is to go. Of version 2 that is no document. Of version 3 it is the document without
-- the field, or what stands there, where the group has no such field.
abbrev pub IsWithoutBlock : Path → GroupMetadata → Option (List ℕ) → Option (List ℕ) → Type 0
IsWithoutBlock b (V2 m) old new = new ≡ None
IsWithoutBlock b (V3 m) old new =
    ((get_member (codes "consolidated_metadata") m.additional_fields ≡ None) × (new ≡ old))
    ⊎ ((get_member (codes "consolidated_metadata") m.additional_fields ≢ None)
    × ((bytes : List ℕ) × (new ≡ Some bytes) × IsWithBlock b (V3 m) None bytes))

-- what is to stand there, where this stands there: the document with the block, or without it
abbrev pub IsToStand : Task → Path → GroupMetadata → Block → Option (List ℕ) → Option (List ℕ) → Type 0
IsToStand Write b m B old new = (bytes : List ℕ) × (new ≡ Some bytes) × IsWithBlock b m (Some B) bytes
IsToStand Remove b m B old new = IsWithoutBlock b m old new

-- The plan is what becomes of the block of the group that b means in the store: it names the document and the number of
-- nodes that a listing finds below b, which comes upon nothing bad; and it has what stands there, and what is to.
pub record IsPlan (s : Contents) (task : Task) (b : Path) (plan : Plan) : Type 0 where
  pub group : GroupMetadata
  pub block : Block
  pub means : meaning s Default b ≡ node (Group group)
  pub listed : IsListedBlock s Default b block
  pub key : plan.key ≡ b ++ block_file group ∷ []
  pub name : plan.name.now ≡ block_file group
  pub nodes : plan.nodes ≡ length block
  pub old : bytes_in plan.old ≡ map.get s.values (b ++ block_file group ∷ [])
  pub new : IsToStand task b group block (bytes_in plan.old) (bytes_in plan.new)
