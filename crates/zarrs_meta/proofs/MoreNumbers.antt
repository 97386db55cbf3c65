-- What reads where numbers are whole reads the same where they may be any.
use Rattle.std.proofs.Common.{Bool, true, false, if◌then◌else◌, is_some, Result, Ok, Err, codes, refl, ap, ◌∙◌}
use Rattle.serde_json.specs.Data.{Data, Members}
use Rattle.serde_json.specs.Find.{get}
use Rattle.serde_json.specs.Written.{has_float}
use Rattle.zarrs_fault.specs.declared.fault.MetadataFault.{MetadataFault}
use Rattle.zarrs_fault.specs.declared.fault.MetadataFault.TheVariants.{UnsupportedNumber, WrongFormat, WrongNodeType}
use Rattle.zarrs_fault.specs.declared.numbers.Numbers.{Numbers}
use Rattle.zarrs_fault.specs.declared.numbers.Numbers.TheVariants.{Whole, Any}
use Rattle.zarrs_form.specs.Documents.{◌>>=◌, document_in, object_of}
use Rattle.zarrs_meta.specs.GroupV3.{group_v3_in}
use Rattle.zarrs_meta.specs.GroupV2.{group_v2_in}
use Rattle.zarrs_meta.specs.ArrayV3.{array_v3_in}
use Rattle.zarrs_meta.specs.ArrayV2.{array_v2_in}
use Rattle.zarrs_meta.specs.Attributes.{attributes_document_in}
use Rattle.zarrs_meta.specs.Node.{has_format, has_type, node_v3_in, node_v2_in, node_in, zarr_json_in}
use Rattle.zarrs_meta.specs.Laws.{ReadsToo, WholeReadsTheSame}
use Rattle.zarrs_meta.specs.declared.node.GroupMetadata.TheVariants.{V3 as group_v3, V2 as group_v2}
use Rattle.zarrs_meta.specs.declared.node.ArrayMetadata.TheVariants.{V3 as array_v3, V2 as array_v2}
use Rattle.zarrs_meta.specs.declared.node.ZarrJson.TheVariants.{Node, Version2}
use Rattle.zarrs_meta.specs.declared.node.NodeMetadata.TheVariants.{Group, Array}

-- a step and the next, each of which reads too
then_too : {A B : Type 0} (more r : Result A MetadataFault) (f g : A → Result B MetadataFault) → ReadsToo more r → ((a : A) → ReadsToo (f a) (g a)) → ReadsToo (more >>= f) (r >>= g)
then_too more (Ok a) f g h k x e = ap (λ s. s >>= f) (h a refl) ∙ k a x e
then_too more (Err fault) f g h k x e = cc

-- a reading gives what it gives
same_too : {A : Type 0} (r : Result A MetadataFault) → ReadsToo r r
same_too r x e = e

-- what has members where its numbers are whole has the same members where none is asked
document_by : (b : Bool) (r : Result Members MetadataFault) → ReadsToo r (if b then Err UnsupportedNumber else r)
document_by true r x e = cc
document_by false r x e = e

-- the members of a document
pub document_too : (numbers : Numbers) (d : Data) → ReadsToo (document_in numbers d) (document_in Whole d)
document_too Whole d = same_too (document_in Whole d)
document_too Any d = document_by (has_float d) (object_of d)

-- a version 3 group
pub group_v3_too : (numbers : Numbers) (d : Data) → ReadsToo (group_v3_in numbers d) (group_v3_in Whole d)
unfolding group_v3_in
group_v3_too numbers d = then_too (document_in numbers d) (document_in Whole d) _ _ (document_too numbers d) (λ a. same_too _)

-- a version 2 group
pub group_v2_too : (numbers : Numbers) (d : Data) → ReadsToo (group_v2_in numbers d) (group_v2_in Whole d)
unfolding group_v2_in
group_v2_too numbers d = then_too (document_in numbers d) (document_in Whole d) _ _ (document_too numbers d) (λ a. same_too _)

-- a version 3 array
pub array_v3_too : (numbers : Numbers) (d : Data) → ReadsToo (array_v3_in numbers d) (array_v3_in Whole d)
unfolding array_v3_in
array_v3_too numbers d = then_too (document_in numbers d) (document_in Whole d) _ _ (document_too numbers d) (λ a. same_too _)

-- a version 2 array
pub array_v2_too : (numbers : Numbers) (d : Data) → ReadsToo (array_v2_in numbers d) (array_v2_in Whole d)
unfolding array_v2_in
array_v2_too numbers d = then_too (document_in numbers d) (document_in Whole d) _ _ (document_too numbers d) (λ a. same_too _)

-- attributes as a document of their own
pub attributes_too : (numbers : Numbers) (d : Data) → ReadsToo (attributes_document_in numbers d) (attributes_document_in Whole d)
attributes_too numbers d = then_too (document_in numbers d) (document_in Whole d) _ _ (document_too numbers d) (λ a. same_too _)

-- ---- nodes

module _ (numbers : Numbers) (d : Data) where
  -- a group or an array of version 3
  node_v3_by : (is_group is_array : Bool)
      → ReadsToo (if is_group then group_v3_in numbers d >>= (λ m. Ok (Group (group_v3 m))) else (if is_array then array_v3_in numbers d >>= (λ m. Ok (Array (array_v3 m))) else Err WrongNodeType))
      (if is_group then group_v3_in Whole d >>= (λ m. Ok (Group (group_v3 m))) else (if is_array then array_v3_in Whole d >>= (λ m. Ok (Array (array_v3 m))) else Err WrongNodeType))
  node_v3_by true is_array = then_too (group_v3_in numbers d) (group_v3_in Whole d) _ _ (group_v3_too numbers d) (λ a. same_too _)
  node_v3_by false true = then_too (array_v3_in numbers d) (array_v3_in Whole d) _ _ (array_v3_too numbers d) (λ a. same_too _)
  node_v3_by false false = same_too _

  -- an array or a group of version 2
  node_v2_by : (has_shape : Bool)
      → ReadsToo (if has_shape then array_v2_in numbers d >>= (λ m. Ok (Array (array_v2 m))) else group_v2_in numbers d >>= (λ m. Ok (Group (group_v2 m))))
      (if has_shape then array_v2_in Whole d >>= (λ m. Ok (Array (array_v2 m))) else group_v2_in Whole d >>= (λ m. Ok (Group (group_v2 m))))
  node_v2_by true = then_too (array_v2_in numbers d) (array_v2_in Whole d) _ _ (array_v2_too numbers d) (λ a. same_too _)
  node_v2_by false = then_too (group_v2_in numbers d) (group_v2_in Whole d) _ _ (group_v2_too numbers d) (λ a. same_too _)

  -- a node of either version
  node_by : (is_v3 is_v2 : Bool)
      → ReadsToo (if is_v3 then node_v3_in numbers d else (if is_v2 then node_v2_in numbers d else Err WrongFormat)) (if is_v3 then node_v3_in Whole d else (if is_v2 then node_v2_in Whole d else Err WrongFormat))
  node_by true is_v2 = node_v3_by (has_type (codes "group") d) (has_type (codes "array") d)
  node_by false true = node_v2_by (is_some (get (codes "shape") d))
  node_by false false = same_too _

  -- a node that reads where numbers are whole reads the same where they may be any
  pub node_too : ReadsToo (node_in numbers d) (node_in Whole d)
  unfolding node_in
  node_too = then_too (document_in numbers d) (document_in Whole d) _ _ (document_too numbers d) (λ _. node_by (has_format 3 d) (has_format 2 d))

  -- format 2 is told at once, and all else is a node
  zarr_json_by : (is_v2 : Bool) → ReadsToo (if is_v2 then Ok Version2 else node_in numbers d >>= (λ m. Ok (Node m))) (if is_v2 then Ok Version2 else node_in Whole d >>= (λ m. Ok (Node m)))
  zarr_json_by true = same_too _
  zarr_json_by false = then_too (node_in numbers d) (node_in Whole d) _ _ node_too (λ a. same_too _)

  -- so does what stands at `zarr.json`
  pub zarr_json_too : ReadsToo (zarr_json_in numbers d) (zarr_json_in Whole d)
  unfolding zarr_json_in
  zarr_json_too = then_too (document_in numbers d) (document_in Whole d) _ _ (document_too numbers d) (λ _. zarr_json_by (has_format 2 d))

-- what is read where numbers have to be whole is read the same whatever numbers may stand
pub whole_reads_the_same : WholeReadsTheSame
whole_reads_the_same numbers d = (group_v3_too numbers d, array_v3_too numbers d, group_v2_too numbers d, array_v2_too numbers d, attributes_too numbers d, node_too numbers d, zarr_json_too numbers d)
