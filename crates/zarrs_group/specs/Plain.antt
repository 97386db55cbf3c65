-- Zarr core specification 3.1, "Group metadata", and the document `.zmetadata` of version 2: the fields that a group
-- has by its format, and what cannot stand beside them.
-- Why the metadata of a group could not have come from a document: a number that it may not hold, or else the least
-- name of an additional field that clashes with a name of the document's own.
-- <https://zarr-specs.readthedocs.io/en/latest/v3/core/index.html#group-metadata>
-- <https://zarr.readthedocs.io/en/stable/user-guide/consolidated_metadata/>
use Rattle.std.specs.Prelude.{ℕ, Bool, false, ◌||◌, if◌then◌else◌, List, [], Option, Some, None, is_some, option_map}
use Rattle.std.specs.Prelude.{codes}
use Rattle.std.specs.List.{list_all, list_any}
use Rattle.serde_json.specs.Data.{Data, Members}
use Rattle.serde_json.specs.Find.{get_member}
use Rattle.serde_json.specs.Written.{has_float, members_have_float}
use Rattle.zarrs_form.specs.Documents.{is_null}
use Rattle.zarrs_meta.specs.GroupV3.{is_plain_group_v3_in}
use Rattle.zarrs_meta.specs.GroupV2.{is_plain_group_v2_in}
use Rattle.zarrs_meta.specs.Node.{node_tree, is_plain_node_in}
use Rattle.zarrs_meta.specs.declared.node.ArrayMetadata.TheVariants.{V3 as array_v3, V2 as array_v2}
use Rattle.zarrs_meta.specs.declared.node.GroupMetadata.{GroupMetadata}
use Rattle.zarrs_meta.specs.declared.node.GroupMetadata.TheVariants.{V3, V2}
use Rattle.zarrs_meta.specs.declared.node.NodeMetadata.{NodeMetadata}
use Rattle.zarrs_meta.specs.declared.node.NodeMetadata.TheVariants.{Group, Array}
use Rattle.zarrs_meta.specs.declared.group_v3.GroupMetadataV3.{GroupMetadataV3}
use Rattle.zarrs_meta.specs.declared.group_v2.GroupMetadataV2.{GroupMetadataV2}
use Rattle.zarrs_block.specs.Block.{Block}
use Rattle.zarrs_block.specs.BlockExpansion.{pairs_at, paths_at}
use Rattle.zarrs_fault.specs.declared.fault.MetadataFault.{MetadataFault}
use Rattle.zarrs_fault.specs.declared.fault.MetadataFault.TheVariants.{UnsupportedNumber, BadMember}
use Rattle.zarrs_fault.specs.declared.numbers.Numbers.{Numbers}
use Rattle.zarrs_fault.specs.declared.numbers.Numbers.TheVariants.{Whole, Any}
use Rattle.zarrs_meaning.specs.Meaning.{Pair}

-- some member has this name
abbrev pub has_member : List ℕ → Members → Bool
has_member name ms = is_some (get_member name ms)

-- the least name among the fields that a version 3 group has by its format; `consolidated_metadata` clashes where it
-- is null
abbrev pub clash_v3 : Members → Option (List ℕ)
clash_v3 ms =
    if has_member (codes "attributes") ms then Some (codes "attributes")
    else if is_null (get_member (codes "consolidated_metadata") ms) then Some (codes "consolidated_metadata")
    else if has_member (codes "node_type") ms then Some (codes "node_type")
    else if has_member (codes "zarr_format") ms then Some (codes "zarr_format")
    else None

-- the least name among the fields that a version 2 group has by its format, or must not have
abbrev pub clash_v2 : Members → Option (List ℕ)
clash_v2 ms =
    if has_member (codes "attributes") ms then Some (codes "attributes")
    else if has_member (codes "shape") ms then Some (codes "shape")
    else if has_member (codes "zarr_format") ms then Some (codes "zarr_format")
    else None

-- some number of the tree is none of these
abbrev pub exceeds : Numbers → Data → Bool
exceeds Whole d = has_float d
exceeds Any d = false

-- some number of the members is none of these
abbrev pub members_exceed : Numbers → Members → Bool
members_exceed Whole ms = members_have_float ms
members_exceed Any ms = false

-- why the metadata of a version 3 group could not have come from a document that may hold these numbers: another
-- number, or else the least clash; or nothing
abbrev pub group_v3_fault_in : Numbers → GroupMetadataV3 → Option MetadataFault
group_v3_fault_in numbers m =
    if members_exceed numbers m.attributes || members_exceed numbers m.additional_fields then Some UnsupportedNumber
    else option_map BadMember (clash_v3 m.additional_fields)

-- why the metadata of a version 2 group could not have come from a document that may hold these numbers: another
-- number, or else the least clash; or nothing
abbrev pub group_v2_fault_in : Numbers → GroupMetadataV2 → Option MetadataFault
group_v2_fault_in numbers m =
    if members_exceed numbers m.attributes || members_exceed numbers m.additional_fields then Some UnsupportedNumber
    else option_map BadMember (clash_v2 m.additional_fields)

-- why the metadata are not stored where documents may hold these numbers, or nothing where they are
abbrev pub group_fault_in : Numbers → GroupMetadata → Option MetadataFault
group_fault_in numbers (V3 m) = group_v3_fault_in numbers m
group_fault_in numbers (V2 m) = group_v2_fault_in numbers m

-- whether the metadata could have come from documents that may hold these numbers
abbrev pub is_plain_group_in : Numbers → GroupMetadata → Bool
is_plain_group_in numbers (V3 m) = is_plain_group_v3_in numbers m
is_plain_group_in numbers (V2 m) = is_plain_group_v2_in numbers m

-- ---- the block of a version 2 group

-- the additional fields of a node
abbrev pub node_fields : NodeMetadata → Members
node_fields (Group (V3 m)) = m.additional_fields
node_fields (Group (V2 m)) = m.additional_fields
node_fields (Array (array_v3 m)) = m.additional_fields
node_fields (Array (array_v2 m)) = m.additional_fields

-- some number of a node is none of these, in what is written of it or in its additional fields
abbrev pub node_exceeds : Numbers → NodeMetadata → Bool
node_exceeds numbers m = exceeds numbers (node_tree m) || members_exceed numbers (node_fields m)

-- the entries of a block, in the order of their keys: all but the base itself, and but those behind a slash that
-- stand without it too
abbrev pub entries_of : Block → List Pair
entries_of B = pairs_at (paths_at [] B B) B

-- a number of some entry that is none of these, or else `metadata` where some entry could not have come from a
-- document that may hold these
abbrev pub entries_fault_in : Numbers → List Pair → Option MetadataFault
entries_fault_in numbers es =
    if list_any (λ e. node_exceeds numbers e.1) es then Some UnsupportedNumber
    else if list_all (λ e. is_plain_node_in numbers e.1) es then None
    else Some (BadMember (codes "metadata"))

-- why a block is not stored where documents may hold these numbers, or nothing where it is
abbrev pub block_fault_in : Numbers → Block → Option MetadataFault
block_fault_in numbers B = entries_fault_in numbers (entries_of B)

-- why what stands beside the metadata is not stored where documents may hold these numbers: the fault of the block of
-- a version 2 group; that of version 3 is in its metadata
abbrev pub beside_fault_in : Numbers → GroupMetadata → Option Block → Option MetadataFault
beside_fault_in numbers (V3 m) block = None
beside_fault_in numbers (V2 m) None = None
beside_fault_in numbers (V2 m) (Some B) = block_fault_in numbers B
