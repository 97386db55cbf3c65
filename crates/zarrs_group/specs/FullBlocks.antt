-- Zarr core specification 3.0 and 3.1, "Extension definition", and zarr-python's field `consolidated_metadata`: the
-- full form of a block, which readers of either version of the specification take.
-- <https://zarr-specs.readthedocs.io/en/latest/v3/core/index.html#extension-definition>
-- <https://zarr.readthedocs.io/en/stable/user-guide/consolidated_metadata/>
--     full_extension m      what is written of an extension, as an object also where its name says it all
--     full_node m      what is written of a node: of a version 3 array each extension but the data type as an object
--     full_block_tree B      what is written of a block, each node in this form
--     with_full_block g block      the group with a block in this form, or without one, all else as it was
use Rattle.std.specs.Prelude.{ℕ, List, [], ◌∷◌, Option, Some, codes, option_map}
use Rattle.serde_json.specs.Data.{Data, string, object, Members, no_members, member}
use Rattle.zarrs_form.specs.Forms.{extension_data, is_nil, list_data, put_rows, unless}
use Rattle.zarrs_form.specs.declared.extension.MetadataV3.{MetadataV3}
use Rattle.zarrs_meta.specs.ArrayV3.{array_v3_rows}
use Rattle.zarrs_meta.specs.Node.{node_tree}
use Rattle.zarrs_meta.specs.declared.array_v3.ArrayMetadataV3.{ArrayMetadataV3}
use Rattle.zarrs_meta.specs.declared.node.ArrayMetadata.TheVariants.{V3 as array_v3, V2 as array_v2}
use Rattle.zarrs_meta.specs.declared.node.GroupMetadata.{GroupMetadata}
use Rattle.zarrs_meta.specs.declared.node.NodeMetadata.{NodeMetadata}
use Rattle.zarrs_meta.specs.declared.node.NodeMetadata.TheVariants.{Group, Array}
use Rattle.zarrs_block.specs.Block.{Block, inline_block}
use Rattle.zarrs_group.specs.BlocksOfGroups.{fields_with_tree, metadata_with_fields, group_with_metadata}
use Rattle.zarrs_group.specs.Groups.{GroupState}

-- a bare name as an object with that name, and anything else as it is
abbrev pub in_object : Data → Data
in_object (string name) = object (member (codes "name") (string name) no_members)
in_object d = d

-- what is written of an extension, as an object also where its name says it all
abbrev pub full_extension : MetadataV3 → Data
full_extension m = in_object (extension_data m)

-- the members of a version 3 array that are extensions, but the data type, which each reader takes by its name; no
-- storage transformers are not written
abbrev pub full_rows : ArrayMetadataV3 → List (List ℕ × Option Data)
full_rows m =
    (codes "chunk_grid", Some (full_extension m.chunk_grid))
    ∷ (codes "chunk_key_encoding", Some (full_extension m.chunk_key_encoding))
    ∷ (codes "codecs", Some (list_data full_extension m.codecs))
    ∷ (
      codes "storage_transformers",
      unless (is_nil m.storage_transformers) (list_data full_extension m.storage_transformers),
    )
    ∷ []

-- a version 3 array is written as its document, but for these members
abbrev pub full_array : ArrayMetadataV3 → Data
full_array m = object (put_rows (full_rows m) (put_rows (array_v3_rows m) m.additional_fields))

-- what is written of a node: its document, but for those members of a version 3 array
abbrev pub full_node : NodeMetadata → Data
full_node (Array (array_v3 m)) = full_array m
full_node (Array (array_v2 m)) = node_tree (Array (array_v2 m))
full_node (Group m) = node_tree (Group m)

-- what is written of each node, at its key
abbrev pub full_documents : Block → Members
full_documents [] = no_members
full_documents (e ∷ B) = member e.0 (full_node e.1) (full_documents B)

-- what is written of a block
abbrev pub full_block_tree : Block → Data
full_block_tree B = inline_block (full_documents B)

-- ---- a block set

-- the additional fields with a block in this form, or without one
abbrev pub fields_with_full : Option Block → Members → Members
fields_with_full block = fields_with_tree (option_map full_block_tree block)

-- the metadata with a block in this form, or without one
abbrev pub metadata_with_full : Option Block → GroupMetadata → GroupMetadata
metadata_with_full block = metadata_with_fields (fields_with_full block)

-- the group with a block in this form or without one, and all else as it was
abbrev pub with_full_block : GroupState → Option Block → GroupState
with_full_block g block = group_with_metadata (metadata_with_full block g.metadata) g block
