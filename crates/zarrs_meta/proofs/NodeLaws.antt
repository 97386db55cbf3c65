-- What is written of a plain node reads as that node.
use Rattle.std.proofs.Common.{◌≡◌, false, Ok, IsTrue, refl}
use Rattle.serde_json.specs.Written.{has_float}
use Rattle.zarrs_form.specs.Documents.{format_of, node_type_of}
use Rattle.zarrs_meta.specs.Node.{node_in, node_tree, is_plain_node, is_plain_node_in}
use Rattle.zarrs_meta.specs.declared.node.GroupMetadata.TheVariants.{V3 as group_v3, V2 as group_v2}
use Rattle.zarrs_meta.specs.declared.node.ArrayMetadata.TheVariants.{V3 as array_v3, V2 as array_v2}
use Rattle.zarrs_fault.specs.declared.numbers.Numbers.{Numbers}
use Rattle.zarrs_meta.specs.declared.node.NodeMetadata.{NodeMetadata}
use Rattle.zarrs_meta.specs.declared.node.NodeMetadata.TheVariants.{Group, Array}
use Rattle.zarrs_meta.proofs.GroupV3Laws as G3
use Rattle.zarrs_meta.proofs.GroupV2Laws as G2
use Rattle.zarrs_meta.proofs.ArrayV3Laws as A3
use Rattle.zarrs_meta.proofs.ArrayV2Laws as A2

-- a plain node is written with numbers that fit
pub node_no_float : (m : NodeMetadata) → IsTrue (is_plain_node m) → has_float (node_tree m) ≡ false
node_no_float (Group (group_v3 m)) plain = G3.group_v3_no_float m plain
node_no_float (Group (group_v2 m)) plain = G2.group_v2_no_float m plain
node_no_float (Array (array_v3 m)) plain = A3.array_v3_no_float m plain
node_no_float (Array (array_v2 m)) plain = A2.array_v2_no_float m plain

-- a node that is plain in these numbers and was written reads as that node in them
pub node_again_in : (numbers : Numbers) (m : NodeMetadata) → IsTrue (is_plain_node_in numbers m) → node_in numbers (node_tree m) ≡ Ok m
unfolding node_in format_of node_type_of
node_again_in numbers (Group (group_v3 m)) plain =
    rw (G3.is_document numbers m plain, G3.has_format numbers m plain, G3.has_kind numbers m plain, G3.group_v3_again_in numbers m plain) refl
node_again_in numbers (Group (group_v2 m)) plain =
    rw (G2.is_document numbers m plain, G2.has_format numbers m plain, G2.no_shape numbers m plain, G2.group_v2_again_in numbers m plain) refl
node_again_in numbers (Array (array_v3 m)) plain =
    rw (A3.is_document numbers m plain, A3.format_again numbers m plain, A3.kind_again numbers m plain, A3.array_v3_again_in numbers m plain) refl
node_again_in numbers (Array (array_v2 m)) plain =
    rw (A2.is_document numbers m plain, A2.has_format numbers m plain, A2.has_shape numbers m plain, A2.array_v2_again_in numbers m plain) refl
