-- Zarr core specification 3.1, "Metadata documents", and specification version 2, "Arrays" and "Groups": a document
-- of either kind and either version.
-- <https://zarr-specs.readthedocs.io/en/latest/v3/core/index.html#metadata>
-- <https://zarr-specs.readthedocs.io/en/latest/v2/v2.0.html#arrays>
-- <https://zarr-specs.readthedocs.io/en/latest/v2/v2.0.html#groups>
use Rattle.std.specs.Prelude.{ℕ, List, Bool, true, false, if◌then◌else◌, is_some, Result, Ok, Err, codes, refl}
use Rattle.std.specs.Result.{is_ok}
use Rattle.serde_json.specs.Data.{Data, no_members}
use Rattle.serde_json.specs.Find.{get}
use Rattle.zarrs_form.specs.Documents.{◌>>=◌, AsksFirst, document_in, format_of, node_type_of}
use Rattle.zarrs_meta.specs.GroupV3.{group_v3_in, group_v3_tree, is_plain_group_v3_in}
use Rattle.zarrs_meta.specs.GroupV2.{group_v2_in, group_v2_tree, is_plain_group_v2_in}
use Rattle.zarrs_meta.specs.ArrayV3.{array_v3_in, array_v3_tree, is_plain_array_v3_in}
use Rattle.zarrs_meta.specs.ArrayV2.{array_v2_in, array_v2_tree, is_plain_array_v2_in}
use Rattle.zarrs_fault.specs.declared.fault.MetadataFault.{MetadataFault}
use Rattle.zarrs_fault.specs.declared.numbers.Numbers.{Numbers}
use Rattle.zarrs_fault.specs.declared.numbers.Numbers.TheVariants.{Whole}
use Rattle.zarrs_fault.specs.declared.fault.MetadataFault.TheVariants.{WrongFormat, WrongNodeType}
use Rattle.zarrs_meta.specs.declared.group_v2.GroupMetadataV2.{GroupMetadataV2}
use Rattle.zarrs_meta.specs.declared.array_v2.ArrayMetadataV2.{ArrayMetadataV2}
use Rattle.zarrs_meta.specs.declared.attributes.AttributesDocument.{AttributesDocument}
use Rattle.zarrs_meta.specs.declared.node.GroupMetadata.TheVariants.{V3 as group_v3, V2 as group_v2}
use Rattle.zarrs_meta.specs.declared.node.ArrayMetadata.TheVariants.{V3 as array_v3, V2 as array_v2}
use Rattle.zarrs_meta.specs.declared.node.ZarrJson.{ZarrJson}
use Rattle.zarrs_meta.specs.declared.node.ZarrJson.TheVariants.{Node, Version2}
use Rattle.zarrs_meta.specs.declared.node.NodeMetadata.{NodeMetadata}
use Rattle.zarrs_meta.specs.declared.node.NodeMetadata.TheVariants.{Group, Array}

-- `zarr_format` is the number
abbrev pub has_format : ℕ → Data → Bool
has_format n d = is_ok (format_of n d)

-- `node_type` is the text
abbrev pub has_type : List ℕ → Data → Bool
has_type t d = is_ok (node_type_of t d)

-- a document of version 3 is a group or an array by its `node_type`
abbrev pub node_v3_in : Numbers → Data → Result NodeMetadata MetadataFault
node_v3_in numbers d =
    if has_type (codes "group") d then group_v3_in numbers d >>= (λ m. Ok (Group (group_v3 m)))
    else
    (if has_type (codes "array") d then array_v3_in numbers d >>= (λ m. Ok (Array (array_v3 m)))
    else Err WrongNodeType)

-- a document of version 2 is an array where it has a `shape`, and else a group
abbrev pub node_v2_in : Numbers → Data → Result NodeMetadata MetadataFault
node_v2_in numbers d =
    if is_some (get (codes "shape") d) then array_v2_in numbers d >>= (λ m. Ok (Array (array_v2 m)))
    else group_v2_in numbers d >>= (λ m. Ok (Group (group_v2 m)))

-- the group or array that a document of either version means where it may hold these numbers, or its first fault
unfoldable pub node_in : Numbers → Data → Result NodeMetadata MetadataFault
node_in numbers d = document_in numbers d >>= λ _.
    if has_format 3 d then node_v3_in numbers d else (if has_format 2 d then node_v2_in numbers d else Err WrongFormat)

-- what a document at the key `zarr.json` means where it may hold these numbers: format 2 is told at once, all else is
-- a node document
unfoldable pub zarr_json_in : Numbers → Data → Result ZarrJson MetadataFault
zarr_json_in numbers d = document_in numbers d >>= λ _.
    if has_format 2 d then Ok Version2 else node_in numbers d >>= (λ m. Ok (Node m))

-- what is no object of such numbers has that fault
pub node_asks_first : AsksFirst node_in
unfolding node_in
node_asks_first numbers d fault h = rw h refl

-- what is no object of such numbers has that fault
pub zarr_json_asks_first : AsksFirst zarr_json_in
unfolding zarr_json_in
zarr_json_asks_first numbers d fault h = rw h refl

-- ---- the written form

-- a node is written as the group or array that it is
abbrev pub node_tree : NodeMetadata → Data
node_tree (Group (group_v3 m)) = group_v3_tree m
node_tree (Group (group_v2 m)) = group_v2_tree m
node_tree (Array (array_v3 m)) = array_v3_tree m
node_tree (Array (array_v2 m)) = array_v2_tree m

-- a node could have come from a document that may hold these numbers where the group or array could
abbrev pub is_plain_node_in : Numbers → NodeMetadata → Bool
is_plain_node_in numbers (Group (group_v3 m)) = is_plain_group_v3_in numbers m
is_plain_node_in numbers (Group (group_v2 m)) = is_plain_group_v2_in numbers m
is_plain_node_in numbers (Array (array_v3 m)) = is_plain_array_v3_in numbers m
is_plain_node_in numbers (Array (array_v2 m)) = is_plain_array_v2_in numbers m

-- a node could have come from a document whose numbers are whole
abbrev pub is_plain_node : NodeMetadata → Bool
is_plain_node m = is_plain_node_in Whole m

-- ---- parts

-- the version 2 group with the attributes of a document in the place of its own, and all else as it was
abbrev pub group_with : AttributesDocument → GroupMetadataV2 → GroupMetadataV2
group_with a m = record m { attributes = a.0 }

-- the group without attributes
abbrev pub group_without_attributes : GroupMetadataV2 → GroupMetadataV2
group_without_attributes m = record m { attributes = no_members }

-- the version 2 array with the attributes of a document in the place of its own, and all else as it was
abbrev pub array_with : AttributesDocument → ArrayMetadataV2 → ArrayMetadataV2
array_with a m = record m { attributes = a.0 }

-- the array without attributes
abbrev pub array_without_attributes : ArrayMetadataV2 → ArrayMetadataV2
array_without_attributes m = record m { attributes = no_members }

-- the node is a group
abbrev pub is_group : NodeMetadata → Bool
is_group (Group g) = true
is_group (Array a) = false
