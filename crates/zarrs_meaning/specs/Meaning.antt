-- Zarr core specification 3.1, "Metadata documents", and the version 2 specification, "Arrays", "Groups" and
-- "Attributes": what a path means in a store, as a function of the look-ups at its keys.
-- <https://zarr-specs.readthedocs.io/en/latest/v3/core/index.html#metadata>
-- <https://zarr-specs.readthedocs.io/en/latest/v2/v2.0.html#arrays>
-- <https://zarr-specs.readthedocs.io/en/latest/v2/v2.0.html#groups>
-- <https://zarr-specs.readthedocs.io/en/latest/v2/v2.0.html#attributes>
use Rattle.std.specs.Prelude.{◌≡◌, Bool, true, false, [], ◌∷◌, ◌++◌, Option, Some, None, Result, Ok, Err}
use Rattle.std.specs.FinMap.{FinMap}
use Rattle.zarrs_store.specs.Segments.{key_cmp}
use Rattle.zarrs_store.specs.Contents.{Contents}
use Rattle.zarrs_store.specs.declared.storage_error.StorageError.{StorageError}
use Rattle.zarrs_path.specs.Paths.{Path}
use Rattle.zarrs_path.specs.Keys.{zarr_json, zarray, zgroup}
use Rattle.zarrs_meta.specs.ArrayV2.{array_v2_in}
use Rattle.zarrs_meta.specs.GroupV2.{group_v2_in}
use Rattle.zarrs_meta.specs.Node.{zarr_json_in, array_with, group_with}
use Rattle.zarrs_meta.specs.declared.array_v2.ArrayMetadataV2.{ArrayMetadataV2}
use Rattle.zarrs_meta.specs.declared.group_v2.GroupMetadataV2.{GroupMetadataV2}
use Rattle.zarrs_meta.specs.declared.attributes.AttributesDocument.{AttributesDocument}
use Rattle.zarrs_meta.specs.declared.node.ArrayMetadata.TheVariants.{V2 as array_v2}
use Rattle.zarrs_meta.specs.declared.node.GroupMetadata.TheVariants.{V2 as group_v2}
use Rattle.zarrs_meta.specs.declared.node.NodeMetadata.{NodeMetadata}
use Rattle.zarrs_meta.specs.declared.node.NodeMetadata.TheVariants.{Group, Array}
use Rattle.zarrs_meta.specs.declared.node.ZarrJson.{ZarrJson}
use Rattle.zarrs_meta.specs.declared.node.ZarrJson.TheVariants.{Node, Version2}
use Rattle.zarrs_meaning.specs.declared.node_create_error.NodeCreateError.{NodeCreateError}
use Rattle.zarrs_meaning.specs.declared.node_create_error.NodeCreateError.TheVariants.{StorageError as InStore}
use Rattle.zarrs_meaning.specs.declared.node_create_error.NodeCreateError.TheVariants.{MetadataVersionMismatch}
use Rattle.zarrs_meaning.specs.DocumentsAtKeys.{Reading, in_bytes, document_at, attributes_in}
use Rattle.zarrs_config.specs.declared.version.MetadataRetrieveVersion.{MetadataRetrieveVersion}
use Rattle.zarrs_config.specs.declared.version.MetadataRetrieveVersion.TheVariants.{Default, V3, V2}

-- a node as it is listed: its path, and its metadata
abbrev pub Pair : Type 0
Pair = Path × NodeMetadata

-- a path means a node with its metadata, or nothing, or is bad with a refusal
pub data Meaning : Type 0 where
  node : NodeMetadata → Meaning
  nothing : Meaning
  bad : NodeCreateError → Meaning

-- the path is bad
abbrev pub is_bad : Meaning → Bool
is_bad (bad e) = true
is_bad _ = false

-- by the document `zarr.json` a path means its node or is bad, and where there is none it means what the other
-- documents say
abbrev pub version_3_line : Result (Option ZarrJson) StorageError → Meaning → Meaning
version_3_line (Ok None) after = after
version_3_line (Ok (Some (Node m))) after = node m
version_3_line (Ok (Some Version2)) after = bad MetadataVersionMismatch
version_3_line (Err e) after = bad (InStore e)

-- by a version 2 document a path means its node, the attributes replaced by those beside it where there are any, or
-- is bad, and where there is none it means what the other documents say
abbrev pub version_2_line : {D : Type 0} → (D → NodeMetadata) → (AttributesDocument → D → D)
    → Result (Option D) StorageError → Result (Option AttributesDocument) StorageError → Meaning → Meaning
version_2_line kind with (Ok None) attributes after = after
version_2_line kind with (Ok (Some d)) (Ok None) after = node (kind d)
version_2_line kind with (Ok (Some d)) (Ok (Some a)) after = node (kind (with a d))
version_2_line kind with (Ok (Some d)) (Err e) after = bad (InStore e)
version_2_line kind with (Err e) attributes after = bad (InStore e)

-- what `zarr.json` says, before the other documents
unfoldable pub zarr_json_line : {V : Type 0} → Reading V → FinMap key_cmp V → Path → Meaning → Meaning
zarr_json_line reading s p after =
    version_3_line (document_at (reading ZarrJson zarr_json_in) s (p ++ zarr_json ∷ [])) after

-- what `.zarray` says, before the other documents
unfoldable pub zarray_line : {V : Type 0} → Reading V → FinMap key_cmp V → Path → Meaning → Meaning
zarray_line reading s p after =
    version_2_line
    (λ m. Array (array_v2 m)) array_with (document_at (reading ArrayMetadataV2 array_v2_in) s (p ++ zarray ∷ []))
    (attributes_in reading s p) after

-- what `.zgroup` says, before the other documents
unfoldable pub zgroup_line : {V : Type 0} → Reading V → FinMap key_cmp V → Path → Meaning → Meaning
zgroup_line reading s p after =
    version_2_line
    (λ m. Group (group_v2 m)) group_with (document_at (reading GroupMetadataV2 group_v2_in) s (p ++ zgroup ∷ []))
    (attributes_in reading s p) after

-- the version Default asks `zarr.json`, `.zarray` and `.zgroup` in this order, V3 the first alone, and V2 the last two
abbrev pub by_lines : {V : Type 0} → Reading V → FinMap key_cmp V → MetadataRetrieveVersion → Path → Meaning
by_lines reading s Default p = zarr_json_line reading s p (zarray_line reading s p (zgroup_line reading s p nothing))
by_lines reading s V3 p = zarr_json_line reading s p nothing
by_lines reading s V2 p = zarray_line reading s p (zgroup_line reading s p nothing)

-- what a path means in a store of bytes or of trees, by the documents that a version admits
unfoldable pub meaning_in : {V : Type 0} → Reading V → FinMap key_cmp V → MetadataRetrieveVersion → Path → Meaning
meaning_in reading s v p = by_lines reading s v p

-- what a path means in a store of bytes, by the documents that a version admits
abbrev pub meaning : Contents → MetadataRetrieveVersion → Path → Meaning
meaning s v p = meaning_in (in_bytes s.numbers) s.values v p

-- the paths that mean nodes, with their metadata
abbrev pub Means : (Path → Meaning) → Pair → Type 0
Means of e = of e.0 ≡ node e.1
