-- Zarr core specification 3.1, "Group metadata", with zarr-python's field `consolidated_metadata`: which block stands
-- in place of a listing.
-- <https://zarr-specs.readthedocs.io/en/latest/v3/core/index.html#group-metadata>
-- <https://zarr.readthedocs.io/en/stable/user-guide/consolidated_metadata/>
use Rattle.std.specs.Prelude.{◌≡◌, ◌≢◌, ◌++◌, Option, Some, None, IsSome, option_map, option_and_then, string_bytes}
use Rattle.std.specs.Prelude.{codes}
use Rattle.std.specs.Result.{result_ok}
use Rattle.serde_json.specs.Data.{Data, Members}
use Rattle.serde_json.specs.Find.{get_member}
use Rattle.zarrs_fault.specs.declared.numbers.Numbers.{Numbers}
use Rattle.zarrs_fault.specs.declared.numbers.Numbers.TheVariants.{Whole}
use Rattle.zarrs_path.specs.Paths.{Path, path_text}
use Rattle.zarrs_config.specs.declared.version.UseConsolidatedMetadata.{UseConsolidatedMetadata}
use Rattle.zarrs_config.specs.declared.version.UseConsolidatedMetadata.TheVariants.{Auto, Must, Never}
use Rattle.zarrs_meta.specs.declared.node.GroupMetadata.{GroupMetadata}
use Rattle.zarrs_meta.specs.declared.node.GroupMetadata.TheVariants.{V3, V2}
use Rattle.zarrs_meta.specs.declared.node.NodeMetadata.{NodeMetadata}
use Rattle.zarrs_meta.specs.declared.node.NodeMetadata.TheVariants.{Group, Array}
use Rattle.zarrs_block.specs.Block.{Block, block_of_in}
use Rattle.zarrs_block.specs.declared.consolidated.ConsolidatedMetadata.{ConsolidatedMetadata}
use Rattle.zarrs_meaning.specs.declared.node_create_error.NodeCreateError.{NodeCreateError}
use Rattle.zarrs_meaning.specs.declared.node_create_error.NodeCreateError.TheVariants.{MissingMetadata, OutOfMemory}

-- the block of a consolidated metadata, where there is one
abbrev pub as_block : Option ConsolidatedMetadata → Option Block
as_block block = option_map (λ c. c.metadata) block

-- the field `consolidated_metadata`, where it reads as a block that may hold these numbers
abbrev pub fields_block : Numbers → Members → Option Block
fields_block numbers ms =
    option_and_then (λ d. result_ok (block_of_in numbers d)) (get_member (codes "consolidated_metadata") ms)

-- the block, which may hold these numbers, that a version 3 group holds in its additional fields; a version 2 group
-- has none
abbrev pub group_block : Numbers → GroupMetadata → Option Block
group_block numbers (V3 m) = fields_block numbers m.additional_fields
group_block numbers (V2 m) = None

-- the block, which may hold these numbers, that metadata hold; an array has none
abbrev pub node_block : Numbers → NodeMetadata → Option Block
node_block numbers (Group g) = group_block numbers g
node_block numbers (Array a) = None

-- the block, whose numbers have to be whole, that metadata hold; an array has none
abbrev pub block_in : NodeMetadata → Option Block
block_in m = node_block Whole m

-- what is chosen for the nodes below a group: a block is used, or the store is listed, or the want of a block is
-- refused
pub data Choice : Type 0 where
  use_block : Block → Choice
  list_store : Choice
  refuse : Choice

-- the choice of a block: under Never the store is listed, and else the block that there is is used; where there is
-- none, Auto lists the store, and Must refuses the want of a block
abbrev pub block_to_use : Option Block → UseConsolidatedMetadata → Choice
block_to_use block Never = list_store
block_to_use (Some B) Auto = use_block B
block_to_use (Some B) Must = use_block B
block_to_use None Auto = list_store
block_to_use None Must = refuse

-- the choice that a call answers: its block is used, or where it answers none the store is listed
abbrev pub as_choice : Option ConsolidatedMetadata → Choice
as_choice (Some c) = use_block c.metadata
as_choice None = list_store

-- the want of a block is refused, and the error says so with the text of p; or out of memory for that text
abbrev pub RefusesUse : Path → Choice → NodeCreateError → Type 0
RefusesUse p choice (MissingMetadata text) =
    (choice ≡ refuse)
    × (string_bytes text ≡ codes "Consolidated metadata required but missing on group " ++ path_text p)
RefusesUse p choice OutOfMemory = choice ≡ refuse
RefusesUse p choice _ = ⊥

-- the field `consolidated_metadata` of a group, whether it reads as a block or not; a version 2 group has none
abbrev pub group_field : GroupMetadata → Option Data
group_field (V3 m) = get_member (codes "consolidated_metadata") m.additional_fields
group_field (V2 m) = None

-- the field `consolidated_metadata` of a node, whether it reads as a block or not: a group has its own; an array has
-- none
abbrev pub block_field : NodeMetadata → Option Data
block_field (Group g) = group_field g
block_field (Array a) = None

-- the error is `OutOfMemory`, the policy is not Never, and the node has the field `consolidated_metadata`
abbrev pub LacksBlockMemory : NodeMetadata → UseConsolidatedMetadata → NodeCreateError → Type 0
LacksBlockMemory m policy OutOfMemory = (policy ≢ Never) × IsSome (block_field m)
LacksBlockMemory m policy _ = ⊥
