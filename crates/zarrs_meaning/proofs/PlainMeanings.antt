-- What paths mean in a store could have come from documents that may hold the numbers of the store.
use Rattle.std.proofs.Common.{◌≡◌, List, ℕ, ◌∷◌, [], ◌++◌, Option, Some, None, Result, Ok, Err, IsTrue, subst}
use Rattle.std.specs.FinMap.{get}
use Rattle.serde_json.specs.Data.{Data}
use Rattle.zarrs_store.specs.Segments.{Segments}
use Rattle.zarrs_store.specs.Contents.{Contents}
use Rattle.zarrs_fault.specs.declared.fault.MetadataFault.{MetadataFault}
use Rattle.zarrs_fault.specs.declared.numbers.Numbers.{Numbers}
use Rattle.zarrs_fault.specs.declared.numbers.Numbers.TheVariants.{Whole}
use Rattle.zarrs_store.specs.declared.storage_error.StorageError.{StorageError}
use Rattle.zarrs_path.specs.Paths.{Path}
use Rattle.zarrs_path.specs.Keys.{zarr_json, zarray, zgroup, zattrs}
use Rattle.zarrs_config.specs.declared.version.MetadataRetrieveVersion.{MetadataRetrieveVersion}
use Rattle.zarrs_config.specs.declared.version.MetadataRetrieveVersion.TheVariants.{Default, V3, V2}
use Rattle.zarrs_form.specs.Documents.{of_bytes, tree_or_fault, json_of, ◌>>=◌}
use Rattle.zarrs_form.proofs.PlainForms.{Reads}
use Rattle.zarrs_meta.specs.ArrayV2.{array_v2_in}
use Rattle.zarrs_meta.specs.GroupV2.{group_v2_in}
use Rattle.zarrs_meta.specs.Attributes.{attributes_document_in}
use Rattle.zarrs_meta.specs.Node.{is_plain_node, is_plain_node_in, zarr_json_in, array_with, group_with}
use Rattle.zarrs_meta.specs.declared.attributes.AttributesDocument.{AttributesDocument}
use Rattle.zarrs_meta.specs.declared.node.ArrayMetadata.TheVariants.{V2 as array_v2}
use Rattle.zarrs_meta.specs.declared.node.GroupMetadata.TheVariants.{V2 as group_v2}
use Rattle.zarrs_meta.specs.declared.node.NodeMetadata.{NodeMetadata}
use Rattle.zarrs_meta.specs.declared.node.NodeMetadata.TheVariants.{Group, Array}
use Rattle.zarrs_meta.specs.declared.node.ZarrJson.{ZarrJson}
use Rattle.zarrs_meta.specs.declared.node.ZarrJson.TheVariants.{Node, Version2}
use Rattle.zarrs_meta.proofs.PlainNodes.{PlainAttributesIn, PlainZarrJsonIn, attributes_plain_in, zarr_json_plain_in, array_with_is_plain_in, group_with_is_plain_in}
use Rattle.zarrs_meta.proofs.PlainArrays as arrays
use Rattle.zarrs_meta.proofs.PlainGroups as groups
use Rattle.zarrs_meaning.specs.DocumentsAtKeys.{document_or_fault, document_from, document_at, in_bytes, attributes_in}
use Rattle.zarrs_meaning.specs.Meaning.{Meaning, node, nothing, bad, version_3_line, version_2_line, zarr_json_line, zarray_line, zgroup_line, meaning_in, meaning}

-- where a path means a node, the node is plain in these numbers
abbrev pub IsPlainMeaningIn : Numbers → Meaning → Type 0
IsPlainMeaningIn numbers (node m) = IsTrue (is_plain_node_in numbers m)
IsPlainMeaningIn numbers nothing = Unit {0}
IsPlainMeaningIn numbers (bad e) = Unit {0}

-- where there is a document, it has P
abbrev pub FoundHas : {D : Type 0} → (D → Type 0) → Result (Option D) StorageError → Type 0
FoundHas P (Ok None) = Unit {0}
FoundHas P (Ok (Some d)) = P d
FoundHas P (Err e) = Unit {0}

module _ {D : Type 0} (P : D → Type 0) (form : Data → Result D MetadataFault) (reads : (d : Data) → Reads (form d) P) where
  -- where what was read has P, the document has it
  named_has : (key : Segments) (r : Result D MetadataFault) → Reads r P → FoundHas P (document_or_fault key r)
  named_has key (Ok d) h = h
  named_has key (Err fault) h = tt

  -- a document that was read of a tree has P
  tree_has : (key : Segments) (o : Option Data) → FoundHas P (document_or_fault key (tree_or_fault o >>= form))
  tree_has key None = tt
  tree_has key (Some d) = named_has key (form d) (reads d)

  -- a document that was read of bytes has P
  bytes_have : (key : Segments) (o : Option (List ℕ)) → FoundHas P (document_from (of_bytes form) key o)
  bytes_have key None = tt
  bytes_have key (Some bytes) = tree_has key (json_of bytes)

  -- the document at a key of a store
  pub document_has : (s : Contents) (key : Segments) → FoundHas P (document_at (of_bytes form) s.values key)
  unfolding document_at
  document_has s key = bytes_have key (get s.values key)

module _ (numbers : Numbers) where
  -- what `zarr.json` says
  line_3 : (r : Result (Option ZarrJson) StorageError) (after : Meaning) → FoundHas (PlainZarrJsonIn numbers) r → IsPlainMeaningIn numbers after → IsPlainMeaningIn numbers (version_3_line r after)
  line_3 (Ok None) after h rest = rest
  line_3 (Ok (Some (Node m))) after h rest = h
  line_3 (Ok (Some Version2)) after h rest = tt
  line_3 (Err e) after h rest = tt

  -- what a document of version 2 says, with the attributes beside it
  line_2 : {D : Type 0} (P : D → Type 0) (kind : D → NodeMetadata) (with : AttributesDocument → D → D) → ((d : D) → P d → IsTrue (is_plain_node_in numbers (kind d)))
      → ((a : AttributesDocument) (d : D) → PlainAttributesIn numbers a → P d → P (with a d))
      → (r : Result (Option D) StorageError) (z : Result (Option AttributesDocument) StorageError) (after : Meaning)
      → FoundHas P r → FoundHas (PlainAttributesIn numbers) z → IsPlainMeaningIn numbers after → IsPlainMeaningIn numbers (version_2_line kind with r z after)
  line_2 P kind with plain more (Ok None) z after h a rest = rest
  line_2 P kind with plain more (Ok (Some d)) (Ok None) after h a rest = plain d h
  line_2 P kind with plain more (Ok (Some d)) (Ok (Some x)) after h a rest = plain (with x d) (more x d a h)
  line_2 P kind with plain more (Ok (Some d)) (Err e) after h a rest = tt
  line_2 P kind with plain more (Err e) z after h a rest = tt

module _ (s : Contents) (p : Path) where
  -- a meaning is plain in the numbers of the store
  abbrev IsPlainHere : Meaning → Type 0
  IsPlainHere m = IsPlainMeaningIn s.numbers m

  -- the attributes beside a document are plain
  beside : FoundHas (PlainAttributesIn s.numbers) (attributes_in (in_bytes s.numbers) s.values p)
  beside = document_has (PlainAttributesIn s.numbers) (attributes_document_in s.numbers) (attributes_plain_in s.numbers) s (p ++ zattrs ∷ [])

  -- what `zarr.json` means is plain where what follows is
  at_zarr_json : (after : Meaning) → IsPlainHere after → IsPlainHere (zarr_json_line (in_bytes s.numbers) s.values p after)
  unfolding zarr_json_line
  at_zarr_json after rest = line_3 s.numbers _ after (document_has (PlainZarrJsonIn s.numbers) (zarr_json_in s.numbers) (zarr_json_plain_in s.numbers) s (p ++ zarr_json ∷ [])) rest

  -- what `.zarray` means is plain where what follows is
  at_zarray : (after : Meaning) → IsPlainHere after → IsPlainHere (zarray_line (in_bytes s.numbers) s.values p after)
  unfolding zarray_line
  at_zarray after rest =
      line_2 s.numbers (arrays.PlainV2In s.numbers) (λ m. Array (array_v2 m)) array_with (λ m plain. plain) (λ a m fine plain. array_with_is_plain_in s.numbers a m fine plain) _ _ after
      (document_has (arrays.PlainV2In s.numbers) (array_v2_in s.numbers) (arrays.array_v2_plain_in s.numbers) s (p ++ zarray ∷ [])) beside rest

  -- what `.zgroup` means is plain where what follows is
  at_zgroup : (after : Meaning) → IsPlainHere after → IsPlainHere (zgroup_line (in_bytes s.numbers) s.values p after)
  unfolding zgroup_line
  at_zgroup after rest =
      line_2 s.numbers (groups.PlainV2In s.numbers) (λ m. Group (group_v2 m)) group_with (λ m plain. plain) (λ a m fine plain. group_with_is_plain_in s.numbers a m fine plain) _ _ after
      (document_has (groups.PlainV2In s.numbers) (group_v2_in s.numbers) (groups.group_v2_plain_in s.numbers) s (p ++ zgroup ∷ [])) beside rest

  -- what a path means is plain in the numbers of the store
  pub plain_meaning : (v : MetadataRetrieveVersion) → IsPlainHere (meaning s v p)
  unfolding meaning_in
  plain_meaning Default = at_zarr_json _ (at_zarray _ (at_zgroup nothing tt))
  plain_meaning V3 = at_zarr_json nothing tt
  plain_meaning V2 = at_zarray _ (at_zgroup nothing tt)

  -- the node that a path means is plain in the numbers of the store
  pub plain_node_in : (v : MetadataRetrieveVersion) (m : NodeMetadata) → meaning s v p ≡ node m → IsTrue (is_plain_node_in s.numbers m)
  plain_node_in v m is = subst (IsPlainMeaningIn s.numbers) is (plain_meaning v)

  -- where these are whole, the node is plain
  pub plain_node : s.numbers ≡ Whole → (v : MetadataRetrieveVersion) (m : NodeMetadata) → meaning s v p ≡ node m → IsTrue (is_plain_node m)
  plain_node whole v m is = subst (λ n. IsTrue (is_plain_node_in n m)) whole (plain_node_in v m is)
