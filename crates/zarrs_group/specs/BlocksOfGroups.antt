-- Zarr core specification 3.1, "Group metadata", with zarr-python's field `consolidated_metadata` and document
-- `.zmetadata` of version 2: the block that a group holds, and the group with a block set.
-- <https://zarr-specs.readthedocs.io/en/latest/v3/core/index.html#group-metadata>
-- <https://zarr.readthedocs.io/en/stable/user-guide/consolidated_metadata/>
--     held_by_in numbers g      the block that a group holds in these numbers, if any
--     block_beside s p m      the block that a store has beside the metadata of a group
--     with_block g block      the group with a block or without one, all else as it was
--     Fits m block, RefusesBlock m block e      that a group of these metadata takes a block; what refuses it
--     CanHoldIn numbers g block      a block that the group holds in these numbers once it is set
use Rattle.std.specs.Prelude.{◌≡◌, false, [], ◌∷◌, Option, Some, None, codes, option_map}
use Rattle.serde_json.specs.Data.{Data, Members, put}
use Rattle.zarrs_fault.specs.declared.numbers.Numbers.{Numbers}
use Rattle.zarrs_store.specs.Contents.{Contents}
use Rattle.zarrs_path.specs.Paths.{Path}
use Rattle.zarrs_form.specs.Documents.{besides}
use Rattle.zarrs_form.specs.Fields.{field_data}
use Rattle.zarrs_meta.specs.declared.node.GroupMetadata.{GroupMetadata}
use Rattle.zarrs_meta.specs.declared.node.GroupMetadata.TheVariants.{V3, V2}
use Rattle.zarrs_block.specs.Block.{Block, block_tree, HasPlainNodesIn}
use Rattle.zarrs_block.specs.Policy.{group_block}
use Rattle.zarrs_block.specs.Zmetadata.{RefusesZmetadata}
use Rattle.zarrs_meaning.specs.declared.node_create_error.NodeCreateError.{NodeCreateError}
use Rattle.zarrs_meaning.specs.declared.node_create_error.NodeCreateError.TheVariants.{OutOfMemory}
use Rattle.zarrs_node.specs.BlocksBelow.{zmetadata_at}
use Rattle.zarrs_group.specs.BlocksBeside.{IsBeside}
use Rattle.zarrs_group.specs.Groups.{GroupState}

-- the block of a group with these metadata and this block beside them: the one in the metadata of version 3, read in
-- these numbers; the one beside those of version 2
abbrev pub held_in : Numbers → GroupMetadata → Option Block → Option Block
held_in numbers (V3 m) block = group_block numbers (V3 m)
held_in numbers (V2 m) block = block

-- the block that a group holds, read in these numbers, where there is one
abbrev pub held_by_in : Numbers → GroupState → Option Block
held_by_in numbers g = held_in numbers g.metadata g.block

-- the block that a store has beside the metadata of a group: of a version 2 group the one that the document
-- `.zmetadata` is, of a version 3 group none
abbrev pub block_beside : Contents → Path → GroupMetadata → Option Block
block_beside s p (V3 m) = None
block_beside s p (V2 m) = zmetadata_at s p

-- ---- a block set

-- the additional fields with this as the field `consolidated_metadata`, which need not be understood; or without that
-- field
abbrev pub fields_with_tree : Option Data → Members → Members
fields_with_tree (Some d) ms = put (codes "consolidated_metadata") (field_data d false) ms
fields_with_tree None ms = besides (codes "consolidated_metadata" ∷ []) ms

-- the additional fields with what is written of a block, or without one
abbrev pub fields_with : Option Block → Members → Members
fields_with block = fields_with_tree (option_map block_tree block)

-- the metadata where a block is set by this change of the additional fields: those of version 2 stay as they are
abbrev pub metadata_with_fields : (Members → Members) → GroupMetadata → GroupMetadata
metadata_with_fields change (V3 m) = V3 (record {
  attributes = m.attributes;
  additional_fields = change m.additional_fields;
})
metadata_with_fields change (V2 m) = V2 m

-- the metadata with a block or without one
abbrev pub metadata_with : Option Block → GroupMetadata → GroupMetadata
metadata_with block = metadata_with_fields (fields_with block)

-- what is beside the metadata once a block was set: the block beside those of version 2, and beside those of version
-- 3 what was there
abbrev pub beside_with : Option Block → GroupMetadata → Option Block → Option Block
beside_with block (V3 m) old = old
beside_with block (V2 m) old = block

-- the group with these metadata, and with a block or without one beside those of version 2, and all else as it was
abbrev pub group_with_metadata : GroupMetadata → GroupState → Option Block → GroupState
group_with_metadata m g block = record {
  path = g.path;
  metadata = m;
  block = beside_with block g.metadata g.block;
  convert_version = g.convert_version;
  erase_version = g.erase_version;
}

-- the group with a block or without one, and all else as it was
abbrev pub with_block : GroupState → Option Block → GroupState
with_block g block = group_with_metadata (metadata_with block g.metadata) g block

-- a group of these metadata takes the block: one of version 2 takes a block that can stand beside its metadata, one
-- of version 3 any
abbrev pub Fits : GroupMetadata → Option Block → Type 0
Fits (V3 m) block = Unit {0}
Fits (V2 m) block = IsBeside block

-- setting a block is refused: of version 3 as out of memory, of version 2 as the block cannot be written; to set no
-- block there is never refused
abbrev pub RefusesBlock : GroupMetadata → Option Block → NodeCreateError → Type 0
RefusesBlock (V3 m) block e = e ≡ OutOfMemory
RefusesBlock (V2 m) (Some B) e = RefusesZmetadata B e
RefusesBlock (V2 m) None e = ⊥

-- a group of these metadata can hold the block in these numbers: none always, of version 2 any, and of version 3 one
-- where each of its nodes could have come from a document that may hold these numbers
abbrev pub MetadataHold : Numbers → GroupMetadata → Option Block → Type 0
MetadataHold numbers m None = Unit {0}
MetadataHold numbers (V3 m) (Some B) = HasPlainNodesIn numbers B
MetadataHold numbers (V2 m) (Some B) = Unit {0}

-- the group can hold the block, or none, in these numbers
abbrev pub CanHoldIn : Numbers → GroupState → Option Block → Type 0
CanHoldIn numbers g block = MetadataHold numbers g.metadata block
