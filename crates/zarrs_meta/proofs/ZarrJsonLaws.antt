-- What is written of a plain node of version 3 reads as that node at the key `zarr.json`.
use Rattle.std.proofs.Common.{◌≡◌, Ok, IsTrue, refl}
use Rattle.zarrs_fault.specs.declared.numbers.Numbers.{Numbers}
use Rattle.zarrs_form.specs.Documents.{format_of}
use Rattle.zarrs_meta.specs.Node.{node_tree, is_plain_node_in, zarr_json_in}
use Rattle.zarrs_meta.specs.NodeDocuments.{is_version_3}
use Rattle.zarrs_meta.specs.declared.node.GroupMetadata.TheVariants.{V3 as group_v3, V2 as group_v2}
use Rattle.zarrs_meta.specs.declared.node.ArrayMetadata.TheVariants.{V3 as array_v3, V2 as array_v2}
use Rattle.zarrs_meta.specs.declared.node.NodeMetadata.{NodeMetadata}
use Rattle.zarrs_meta.specs.declared.node.NodeMetadata.TheVariants.{Group, Array}
use Rattle.zarrs_meta.specs.declared.node.ZarrJson.TheVariants.{Node}
use Rattle.zarrs_meta.proofs.GroupV3Laws as G3
use Rattle.zarrs_meta.proofs.ArrayV3Laws as A3
use Rattle.zarrs_meta.proofs.NodeLaws.{node_again_in}

-- a node of version 3 that is plain in these numbers and was written is that node at the key `zarr.json`
pub zarr_json_again_in : (numbers : Numbers) (m : NodeMetadata) → IsTrue (is_version_3 m) → IsTrue (is_plain_node_in numbers m) → zarr_json_in numbers (node_tree m) ≡ Ok (Node m)
unfolding zarr_json_in format_of
zarr_json_again_in numbers (Group (group_v3 m)) is_3 plain =
    rw (G3.is_document numbers m plain, G3.has_format numbers m plain, node_again_in numbers (Group (group_v3 m)) plain) refl
zarr_json_again_in numbers (Group (group_v2 m)) is_3 plain = cc
zarr_json_again_in numbers (Array (array_v3 m)) is_3 plain =
    rw (A3.is_document numbers m plain, A3.format_again numbers m plain, node_again_in numbers (Array (array_v3 m)) plain) refl
zarr_json_again_in numbers (Array (array_v2 m)) is_3 plain = cc
