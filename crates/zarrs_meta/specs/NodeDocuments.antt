-- Zarr core specification 3.1, "Metadata documents": the document of a node, as it is written and read again.
-- <https://zarr-specs.readthedocs.io/en/latest/v3/core/index.html#metadata>
--     ReadsAs bytes m      the bytes are the document of m
--     IsNotWritten m      there is none
--     is_version_3 m      the version of the metadata
use Rattle.std.specs.Prelude.{◌≡◌, ◌<◌, ◌⊎◌, ℕ, List, Bool, true, false, Ok}
use Rattle.serde_json.specs.Data.{depth}
use Rattle.serde_json.specs.Read.{max_depth}
use Rattle.zarrs_form.specs.Documents.{of_bytes}
use Rattle.zarrs_fault.specs.declared.numbers.Numbers.{Numbers}
use Rattle.zarrs_fault.specs.declared.numbers.Numbers.TheVariants.{Whole}
use Rattle.zarrs_meta.specs.Node.{node_in, node_tree, is_plain_node}
use Rattle.zarrs_meta.specs.declared.node.GroupMetadata.TheVariants.{V3 as group_v3, V2 as group_v2}
use Rattle.zarrs_meta.specs.declared.node.ArrayMetadata.TheVariants.{V3 as array_v3, V2 as array_v2}
use Rattle.zarrs_meta.specs.declared.node.NodeMetadata.{NodeMetadata}
use Rattle.zarrs_meta.specs.declared.node.NodeMetadata.TheVariants.{Group, Array}

-- the bytes are read as the document of these metadata, where it may hold these numbers
abbrev pub ReadsAsIn : Numbers → List ℕ → NodeMetadata → Type 0
ReadsAsIn numbers bytes m = of_bytes (node_in numbers) bytes ≡ Ok m

-- the bytes are read as the document of these metadata, where its numbers have to be whole
abbrev pub ReadsAs : List ℕ → NodeMetadata → Type 0
ReadsAs bytes m = ReadsAsIn Whole bytes m

-- the metadata could not have come from a document, or nest deeper than a document that is read
abbrev pub IsNotWritten : NodeMetadata → Type 0
IsNotWritten m = (is_plain_node m ≡ false) ⊎ (max_depth < depth (node_tree m))

-- the metadata are of version 3
abbrev pub is_version_3 : NodeMetadata → Bool
is_version_3 (Group (group_v3 m)) = true
is_version_3 (Group (group_v2 m)) = false
is_version_3 (Array (array_v3 m)) = true
is_version_3 (Array (array_v2 m)) = false
