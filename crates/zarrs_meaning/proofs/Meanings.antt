-- What a path means, by what the look-ups found.
use Rattle.std.proofs.Common.{◌≡◌, ℕ, Bool, List, [], ◌∷◌, ◌++◌, Option, Some, None, Result, Ok, Err, ◌⊎◌, inl, inr, ⊎_elim, ap, sym, refl, subst, ◌∙◌}
use Rattle.std.specs.FinMap.{get}
use Rattle.zarrs_store.specs.Segments.{Segments}
use Rattle.zarrs_store.specs.Contents.{Contents}
use Rattle.zarrs_fault.specs.declared.fault.MetadataFault.{MetadataFault}
use Rattle.zarrs_store.specs.declared.storage_error.StorageError.{StorageError}
use Rattle.zarrs_store.specs.declared.storage_error.StorageError.TheVariants.{Fault, InvalidMetadata, Other, OutOfMemory}
use Rattle.zarrs_path.specs.Paths.{Path}
use Rattle.zarrs_path.specs.Keys.{zarr_json, zarray, zgroup}
use Rattle.zarrs_form.specs.Documents.{of_bytes}
use Rattle.zarrs_meta.specs.ArrayV2.{array_v2_in}
use Rattle.zarrs_meta.specs.GroupV2.{group_v2_in}
use Rattle.zarrs_meta.specs.Node.{zarr_json_in, array_with, group_with}
use Rattle.zarrs_meta.specs.declared.array_v2.ArrayMetadataV2.{ArrayMetadataV2}
use Rattle.zarrs_meta.specs.declared.group_v2.GroupMetadataV2.{GroupMetadataV2}
use Rattle.zarrs_meta.specs.declared.attributes.AttributesDocument.{AttributesDocument}
use Rattle.zarrs_meta.specs.declared.node.ArrayMetadata.TheVariants.{V2 as array_v2}
use Rattle.zarrs_meta.specs.declared.node.GroupMetadata.TheVariants.{V2 as group_v2}
use Rattle.zarrs_meta.specs.declared.node.NodeMetadata.{NodeMetadata}
use Rattle.zarrs_meta.specs.declared.node.NodeMetadata.TheVariants.{Group, Array}
use Rattle.zarrs_meta.specs.declared.node.ZarrJson.{ZarrJson}
use Rattle.zarrs_meaning.specs.declared.node_create_error.NodeCreateError.{NodeCreateError}
use Rattle.zarrs_meaning.specs.declared.node_create_error.NodeCreateError.TheVariants.{StorageError as InStore}
use Rattle.zarrs_config.specs.declared.version.MetadataRetrieveVersion.TheVariants.{Default, V3, V2}
use Rattle.zarrs_meaning.specs.DocumentsAtKeys.{in_bytes, document_from, document_at, attributes_at}
use Rattle.zarrs_meaning.specs.Meaning.{Meaning, meaning, meaning_in, node, nothing, bad, version_3_line, version_2_line, zarr_json_line, zarray_line, zgroup_line}
use Rattle.zarrs_meaning.specs.Refusals.{IsExcused}
use Rattle.zarrs_meaning.specs.DocumentsAtKeys.{RefusesReading}
use Rattle.zarrs_meaning.specs.StepsOfDocuments.{FollowsLine}
use Rattle.zarrs_meaning.specs.Refusals.{Finds}

-- the node of a meaning, or another where it is none
node_or : NodeMetadata → Meaning → NodeMetadata
node_or m (node x) = x
node_or m nothing = m
node_or m (bad e) = m

-- equal nodes have equal metadata
pub same_node : (m n : NodeMetadata) → node m ≡ node n → m ≡ n
unfolding node_or
same_node m n e = ap (node_or m) e

-- an option that is no value is none
pub none_of : {A : Type 0} (o : Option A) → ((x : A) → o ≡ Some x → ⊥) → o ≡ None
none_of None h = refl
none_of (Some x) h = absurd (h x refl)

module _ {D : Type 0} (reading : List ℕ → Result D MetadataFault) (s : Contents) (k : Segments) where
  -- an absent key has no document
  pub document_none : None ≡ get s.values k → document_at reading s.values k ≡ Ok None
  unfolding document_at
  document_none absent = ap (document_from reading k) (sym absent)

-- the refusal of a reading is that of a node: it is excused, or what the reading refuses
pub reading_refused : {D : Type 0} (can_fail : Bool) (reading : Result D StorageError) (e : StorageError) → RefusesReading can_fail reading e → IsExcused can_fail (InStore e) ⊎ (reading ≡ Err e)
reading_refused can_fail reading Fault refused = inl refused
reading_refused can_fail reading (InvalidMetadata key fault) refused = inr refused
reading_refused can_fail reading (Other text) refused = absurd refused
reading_refused can_fail reading OutOfMemory refused = inl tt

module _ (s : Contents) (p : Path) (k : Segments) where
  -- what `zarr.json` says, by the document at its key
  pub zarr_json_line_is : k ≡ p ++ zarr_json ∷ [] → (r : Result (Option ZarrJson) StorageError) → document_at (of_bytes (zarr_json_in s.numbers)) s.values k ≡ r → (after : Meaning) → zarr_json_line (in_bytes s.numbers) s.values p after ≡ version_3_line r after
  unfolding zarr_json_line
  zarr_json_line_is is r e after = ap (λ x. version_3_line x after) (ap (document_at (of_bytes (zarr_json_in s.numbers)) s.values) (sym is) ∙ e)

  -- what `.zarray` says, by the documents at its key and at that of the attributes
  pub zarray_line_is : k ≡ p ++ zarray ∷ [] → (r : Result (Option ArrayMetadataV2) StorageError) → document_at (of_bytes (array_v2_in s.numbers)) s.values k ≡ r
      → (z : Result (Option AttributesDocument) StorageError) → attributes_at s p ≡ z → (after : Meaning) → zarray_line (in_bytes s.numbers) s.values p after ≡ version_2_line (λ m. Array (array_v2 m)) array_with r z after
  unfolding zarray_line
  zarray_line_is is r e z f after =
      ap (λ x. version_2_line (λ m. Array (array_v2 m)) array_with x (attributes_at s p) after) (ap (document_at (of_bytes (array_v2_in s.numbers)) s.values) (sym is) ∙ e)
      ∙ ap (λ x. version_2_line (λ m. Array (array_v2 m)) array_with r x after) f

  -- what `.zgroup` says, by the documents at its key and at that of the attributes
  pub zgroup_line_is : k ≡ p ++ zgroup ∷ [] → (r : Result (Option GroupMetadataV2) StorageError) → document_at (of_bytes (group_v2_in s.numbers)) s.values k ≡ r
      → (z : Result (Option AttributesDocument) StorageError) → attributes_at s p ≡ z → (after : Meaning) → zgroup_line (in_bytes s.numbers) s.values p after ≡ version_2_line (λ m. Group (group_v2 m)) group_with r z after
  unfolding zgroup_line
  zgroup_line_is is r e z f after =
      ap (λ x. version_2_line (λ m. Group (group_v2 m)) group_with x (attributes_at s p) after) (ap (document_at (of_bytes (group_v2_in s.numbers)) s.values) (sym is) ∙ e)
      ∙ ap (λ x. version_2_line (λ m. Group (group_v2 m)) group_with r x after) f

-- the version Default asks all documents
pub default_is : (s : Contents) (p : Path) → meaning s Default p ≡ zarr_json_line (in_bytes s.numbers) s.values p (zarray_line (in_bytes s.numbers) s.values p (zgroup_line (in_bytes s.numbers) s.values p nothing))
unfolding meaning_in
default_is s p = refl

-- the version V3 asks `zarr.json` alone
pub v3_is : (s : Contents) (p : Path) → meaning s V3 p ≡ zarr_json_line (in_bytes s.numbers) s.values p nothing
unfolding meaning_in
v3_is s p = refl

-- the version V2 asks `.zarray` and `.zgroup`
pub v2_is : (s : Contents) (p : Path) → meaning s V2 p ≡ zarray_line (in_bytes s.numbers) s.values p (zgroup_line (in_bytes s.numbers) s.values p nothing)
unfolding meaning_in
v2_is s p = refl

-- an answer that follows the only lines of a version is the meaning
pub finds_by : (can_fail : Bool) (r : Result (Option NodeMetadata) NodeCreateError) (line : Meaning → Meaning) (m : Meaning) → m ≡ line nothing → FollowsLine can_fail r line → Finds can_fail r m
finds_by f (Ok (Some d)) line m e h = e ∙ h nothing
finds_by f (Ok None) line m e h = e ∙ h nothing
finds_by f (Err x) line m e h = ⊎_elim inl (λ all. inr (e ∙ all nothing)) h

module _ (can_fail : Bool) (line : Meaning → Meaning) where
  -- an answer with metadata that follows a line
  pub follows_some : (o : Option NodeMetadata) (m : NodeMetadata) → o ≡ Some m → FollowsLine can_fail (Ok o) line → (after : Meaning) → line after ≡ node m
  follows_some o m e h = subst (λ x. FollowsLine can_fail (Ok x) line) e h

  -- an answer without metadata that follows a line
  pub follows_none : (o : Option NodeMetadata) → o ≡ None → FollowsLine can_fail (Ok o) line → (after : Meaning) → line after ≡ after
  follows_none o e h = subst (λ x. FollowsLine can_fail (Ok x) line) e h
