-- Every node and all attributes that reading gives are plain.
use Rattle.std.proofs.Common.{◌≡◌, Bool, true, false, not, if◌then◌else◌, is_some, Ok, Err, IsTrue, codes}
use Rattle.serde_json.specs.Data.{Data, object}
use Rattle.serde_json.specs.Find.{get}
use Rattle.zarrs_form.specs.Documents.{◌>>=◌, document_in, has_own}
use Rattle.zarrs_meta.specs.GroupV3.{group_v3_in}
use Rattle.zarrs_meta.specs.GroupV2.{group_v2_in, is_plain_group_v2, is_plain_group_v2_in}
use Rattle.zarrs_meta.specs.ArrayV3.{array_v3_in}
use Rattle.zarrs_meta.specs.ArrayV2.{array_v2_in, is_plain_array_v2, is_plain_array_v2_in}
use Rattle.zarrs_meta.specs.Attributes.{attributes_document_in, is_plain_attributes_in}
use Rattle.zarrs_meta.specs.ArrayV2 as array
use Rattle.zarrs_meta.specs.GroupV2 as v2
use Rattle.zarrs_form.specs.Forms.{fits_in}
use Rattle.zarrs_meta.specs.Node.{zarr_json_in, node_in, has_format, has_type, node_v3_in, node_v2_in, is_plain_node_in, group_with, array_with}
use Rattle.zarrs_meta.specs.Laws.{WithAttributesIsPlain}
use Rattle.zarrs_fault.specs.declared.fault.MetadataFault.TheVariants.{WrongFormat, WrongNodeType}
use Rattle.zarrs_fault.specs.declared.numbers.Numbers.{Numbers}
use Rattle.zarrs_fault.specs.declared.numbers.Numbers.TheVariants.{Whole}
use Rattle.zarrs_meta.specs.declared.group_v2.GroupMetadataV2.{GroupMetadataV2}
use Rattle.zarrs_meta.specs.declared.array_v2.ArrayMetadataV2.{ArrayMetadataV2}
use Rattle.zarrs_meta.specs.declared.attributes.AttributesDocument.{AttributesDocument}
use Rattle.zarrs_meta.specs.declared.node.GroupMetadata.TheVariants.{V3 as group_v3, V2 as group_v2}
use Rattle.zarrs_meta.specs.declared.node.ArrayMetadata.TheVariants.{V3 as array_v3, V2 as array_v2}
use Rattle.zarrs_meta.specs.declared.node.ZarrJson.{ZarrJson}
use Rattle.zarrs_meta.specs.declared.node.ZarrJson.TheVariants.{Node, Version2}
use Rattle.zarrs_meta.specs.declared.node.NodeMetadata.{NodeMetadata}
use Rattle.zarrs_meta.specs.declared.node.NodeMetadata.TheVariants.{Group, Array}
use Rattle.zarrs_form.proofs.RowLaws.{both}
use Rattle.zarrs_form.proofs.PlainForms.{Reads, ok_then, of_ok, both_true, IsDocument, document_fits}
use Rattle.zarrs_meta.proofs.PlainGroups as groups
use Rattle.zarrs_meta.proofs.PlainGroups.{group_v3_plain_in, group_v2_plain_in}
use Rattle.zarrs_meta.proofs.PlainArrays as arrays
use Rattle.zarrs_meta.proofs.PlainArrays.{array_v3_plain_in, array_v2_plain_in}

-- ---- attributes

-- attributes could have come from a document that may hold these numbers
abbrev pub PlainAttributesIn : Numbers → AttributesDocument → Type 0
PlainAttributesIn numbers a = IsTrue (is_plain_attributes_in numbers a)

-- the members of a document have its numbers
pub attributes_plain_in : (numbers : Numbers) (d : Data) → Reads (attributes_document_in numbers d) (PlainAttributesIn numbers)
attributes_plain_in numbers d = ok_then (IsDocument numbers d) (PlainAttributesIn numbers) (document_in numbers d) _ (document_fits numbers d) (λ ms h. h.1)

-- attributes that were read are plain in their numbers
pub read_attributes_are_plain_in : (numbers : Numbers) (d : Data) (a : AttributesDocument) → attributes_document_in numbers d ≡ Ok a → IsTrue (is_plain_attributes_in numbers a)
read_attributes_are_plain_in numbers d a e = of_ok (PlainAttributesIn numbers) (attributes_document_in numbers d) a (attributes_plain_in numbers d) e

-- ---- nodes

-- a node could have come from a document that may hold these numbers
abbrev pub PlainNodeIn : Numbers → NodeMetadata → Type 0
PlainNodeIn numbers m = IsTrue (is_plain_node_in numbers m)

module _ (numbers : Numbers) (d : Data) where
  -- a group or an array of version 3
  node_v3_by : (is_group is_array : Bool)
      → Reads (if is_group then group_v3_in numbers d >>= (λ m. Ok (Group (group_v3 m))) else (if is_array then array_v3_in numbers d >>= (λ m. Ok (Array (array_v3 m))) else Err WrongNodeType)) (PlainNodeIn numbers)
  node_v3_by true is_array = ok_then (groups.PlainV3In numbers) (PlainNodeIn numbers) (group_v3_in numbers d) _ (group_v3_plain_in numbers d) (λ m plain. plain)
  node_v3_by false true = ok_then (arrays.PlainV3In numbers) (PlainNodeIn numbers) (array_v3_in numbers d) _ (array_v3_plain_in numbers d) (λ m plain. plain)
  node_v3_by false false = λ e. cc

  -- an array or a group of version 2
  node_v2_by : (has_shape : Bool)
      → Reads (if has_shape then array_v2_in numbers d >>= (λ m. Ok (Array (array_v2 m))) else group_v2_in numbers d >>= (λ m. Ok (Group (group_v2 m)))) (PlainNodeIn numbers)
  node_v2_by true = ok_then (arrays.PlainV2In numbers) (PlainNodeIn numbers) (array_v2_in numbers d) _ (array_v2_plain_in numbers d) (λ m plain. plain)
  node_v2_by false = ok_then (groups.PlainV2In numbers) (PlainNodeIn numbers) (group_v2_in numbers d) _ (group_v2_plain_in numbers d) (λ m plain. plain)

  -- a node of either version
  node_by : (is_v3 is_v2 : Bool) → Reads (if is_v3 then node_v3_in numbers d else (if is_v2 then node_v2_in numbers d else Err WrongFormat)) (PlainNodeIn numbers)
  node_by true is_v2 = node_v3_by (has_type (codes "group") d) (has_type (codes "array") d)
  node_by false true = node_v2_by (is_some (get (codes "shape") d))
  node_by false false = λ e. cc

  -- the numbers are looked at first, and then the format
  pub node_plain_in : Reads (node_in numbers d) (PlainNodeIn numbers)
  unfolding node_in
  node_plain_in = ok_then (IsDocument numbers d) (PlainNodeIn numbers) (document_in numbers d) _ (document_fits numbers d) (λ _ _. node_by (has_format 3 d) (has_format 2 d))

-- a node that was read is plain in its numbers
pub read_node_is_plain_in : (numbers : Numbers) (d : Data) (m : NodeMetadata) → node_in numbers d ≡ Ok m → IsTrue (is_plain_node_in numbers m)
read_node_is_plain_in numbers d m e = of_ok (PlainNodeIn numbers) (node_in numbers d) m (node_plain_in numbers d) e

-- ---- the document at `zarr.json`

-- a node could have come from a document that may hold these numbers, where there is one
abbrev pub PlainZarrJsonIn : Numbers → ZarrJson → Type 0
PlainZarrJsonIn numbers (Node m) = PlainNodeIn numbers m
PlainZarrJsonIn numbers Version2 = Unit {0}

-- format 2 is told at once, and all else is a node
zarr_json_by : (is_v2 : Bool) (numbers : Numbers) (d : Data) → Reads (if is_v2 then Ok Version2 else node_in numbers d >>= (λ m. Ok (Node m))) (PlainZarrJsonIn numbers)
zarr_json_by true numbers d = tt
zarr_json_by false numbers d = ok_then (PlainNodeIn numbers) (PlainZarrJsonIn numbers) (node_in numbers d) _ (node_plain_in numbers d) (λ m plain. plain)

-- the numbers are looked at first, and then the format
pub zarr_json_plain_in : (numbers : Numbers) (d : Data) → Reads (zarr_json_in numbers d) (PlainZarrJsonIn numbers)
unfolding zarr_json_in
zarr_json_plain_in numbers d = ok_then (IsDocument numbers d) (PlainZarrJsonIn numbers) (document_in numbers d) _ (document_fits numbers d) (λ _ _. zarr_json_by (has_format 2 d) numbers d)

-- a node that was read at `zarr.json` is plain in its numbers
pub read_zarr_json_is_plain_in : (numbers : Numbers) (d : Data) (m : NodeMetadata) → zarr_json_in numbers d ≡ Ok (Node m) → IsTrue (is_plain_node_in numbers m)
read_zarr_json_is_plain_in numbers d m e = of_ok (PlainZarrJsonIn numbers) (zarr_json_in numbers d) (Node m) (zarr_json_plain_in numbers d) e

-- ---- attributes that replace those of a document

-- a version 2 group with attributes, both plain in these numbers, is plain in them
pub group_with_is_plain_in : (numbers : Numbers) (a : AttributesDocument) (m : GroupMetadataV2) → IsTrue (is_plain_attributes_in numbers a) → IsTrue (is_plain_group_v2_in numbers m)
    → IsTrue (is_plain_group_v2_in numbers (group_with a m))
group_with_is_plain_in numbers a m fine plain =
    let free = both _ (not (has_own v2.group_v2_names m.additional_fields)) plain in
    let parts = both (fits_in numbers (object m.attributes)) (fits_in numbers (object m.additional_fields)) free.0 in
    both_true _ _ (both_true (fits_in numbers (object a.0)) (fits_in numbers (object m.additional_fields)) fine parts.1) free.1

-- a plain version 2 group with plain attributes is plain
pub group_with_is_plain : (a : AttributesDocument) (m : GroupMetadataV2) → IsTrue (is_plain_attributes_in Whole a) → IsTrue (is_plain_group_v2 m) → IsTrue (is_plain_group_v2 (group_with a m))
group_with_is_plain a m fine plain = group_with_is_plain_in Whole a m fine plain

-- a version 2 array with attributes, both plain in these numbers, is plain in them
pub array_with_is_plain_in : (numbers : Numbers) (a : AttributesDocument) (m : ArrayMetadataV2) → IsTrue (is_plain_attributes_in numbers a) → IsTrue (is_plain_array_v2_in numbers m)
    → IsTrue (is_plain_array_v2_in numbers (array_with a m))
array_with_is_plain_in numbers a m fine plain =
    let free = both _ (not (has_own array.array_v2_names m.additional_fields)) plain in
    let fields = both _ (fits_in numbers (object m.additional_fields)) free.0 in
    let rest = both _ (fits_in numbers (object m.attributes)) fields.0 in
    both_true _ _ (both_true _ _ (both_true _ (fits_in numbers (object a.0)) rest.0 fine) fields.1) free.1

-- a plain version 2 array with plain attributes is plain
pub array_with_is_plain : (a : AttributesDocument) (m : ArrayMetadataV2) → IsTrue (is_plain_attributes_in Whole a) → IsTrue (is_plain_array_v2 m) → IsTrue (is_plain_array_v2 (array_with a m))
array_with_is_plain a m fine plain = array_with_is_plain_in Whole a m fine plain

-- attributes that replace those of a plain group or array leave it plain
pub with_attributes_is_plain : WithAttributesIsPlain
with_attributes_is_plain a fine = (λ m plain. group_with_is_plain a m fine plain, λ m plain. array_with_is_plain a m fine plain)
