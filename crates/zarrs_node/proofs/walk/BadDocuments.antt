-- What a path is bad for: a document of it that does not read, or is of the other version.
use Rattle.std.proofs.Common.{◌≡◌, ℕ, List, [], ◌∷◌, ◌++◌, Option, Some, None, Result, Ok, Err, refl, sym, subst}
use Rattle.std.specs.FinMap.{get}
use Rattle.zarrs_store.specs.Segments.{Segments}
use Rattle.zarrs_store.specs.Contents.{Contents}
use Rattle.zarrs_fault.specs.declared.fault.MetadataFault.{MetadataFault}
use Rattle.zarrs_store.specs.declared.storage_error.StorageError.{StorageError}
use Rattle.zarrs_store.specs.declared.storage_error.StorageError.TheVariants.{InvalidMetadata}
use Rattle.zarrs_path.specs.Paths.{Path}
use Rattle.zarrs_path.specs.Keys.{zarr_json, zarray, zgroup, zattrs}
use Rattle.zarrs_form.specs.Documents.{of_bytes}
use Rattle.zarrs_meta.specs.ArrayV2.{array_v2_in}
use Rattle.zarrs_meta.specs.GroupV2.{group_v2_in}
use Rattle.zarrs_meta.specs.Attributes.{attributes_document_in}
use Rattle.zarrs_meta.specs.Node.{zarr_json_in, array_with, group_with}
use Rattle.zarrs_meta.specs.declared.attributes.AttributesDocument.{AttributesDocument}
use Rattle.zarrs_meta.specs.declared.node.ArrayMetadata.TheVariants.{V2 as array_v2}
use Rattle.zarrs_meta.specs.declared.node.GroupMetadata.TheVariants.{V2 as group_v2}
use Rattle.zarrs_meta.specs.declared.node.NodeMetadata.{NodeMetadata}
use Rattle.zarrs_meta.specs.declared.node.NodeMetadata.TheVariants.{Group, Array}
use Rattle.zarrs_meta.specs.declared.node.ZarrJson.{ZarrJson}
use Rattle.zarrs_meta.specs.declared.node.ZarrJson.TheVariants.{Node as node_json, Version2}
use Rattle.zarrs_meaning.specs.declared.node_create_error.NodeCreateError.{NodeCreateError}
use Rattle.zarrs_meaning.specs.declared.node_create_error.NodeCreateError.TheVariants.{StorageError as InStore, MetadataVersionMismatch}
use Rattle.zarrs_config.specs.declared.version.MetadataRetrieveVersion.{MetadataRetrieveVersion}
use Rattle.zarrs_config.specs.declared.version.MetadataRetrieveVersion.TheVariants.{Default, V3, V2}
use Rattle.zarrs_meaning.specs.DocumentsAtKeys.{in_bytes, document_or_fault, document_from, document_at, attributes_at}
use Rattle.zarrs_meaning.specs.Meaning.{Meaning, meaning, node, nothing, bad, version_3_line, version_2_line, zarr_json_line, zarray_line, zgroup_line}
use Rattle.zarrs_meaning.proofs.Meanings.{zarr_json_line_is, zarray_line_is, zgroup_line_is, default_is, v3_is, v2_is}

-- the refusal is of a document that does not read
abbrev pub IsInvalid : StorageError → Type 0
IsInvalid (InvalidMetadata key fault) = Unit {0}
IsInvalid _ = ⊥

-- the refusal is of a document that does not read, or is of the other version
abbrev pub IsOfDocument : NodeCreateError → Type 0
IsOfDocument (InStore e) = IsInvalid e
IsOfDocument MetadataVersionMismatch = Unit {0}
IsOfDocument _ = ⊥

-- what a meaning is bad for is of a document
abbrev pub IsBadByDocument : Meaning → Type 0
IsBadByDocument (node m) = Unit {0}
IsBadByDocument nothing = Unit {0}
IsBadByDocument (bad e) = IsOfDocument e

-- what a reading refuses is a document that does not read
abbrev RefusesInvalid : {D : Type 0} → Result D StorageError → Type 0
RefusesInvalid (Ok d) = Unit {0}
RefusesInvalid (Err e) = IsInvalid e

-- so it is of a document as it was read
or_invalid : {D : Type 0} (k : Segments) (r : Result D MetadataFault) → RefusesInvalid (document_or_fault k r)
or_invalid k (Ok d) = tt
or_invalid k (Err fault) = tt

-- of the document of what stands at a key
from_invalid : {D : Type 0} (reading : List ℕ → Result D MetadataFault) (k : Segments) (o : Option (List ℕ)) → RefusesInvalid (document_from reading k o)
from_invalid reading k None = tt
from_invalid reading k (Some x) = or_invalid k (reading x)

-- and of the document at a key
at_invalid : {D : Type 0} (reading : List ℕ → Result D MetadataFault) (s : Contents) (k : Segments) → RefusesInvalid (document_at reading s.values k)
unfolding document_at
at_invalid reading s k = from_invalid reading k (get s.values k)

-- `zarr.json` is bad by a document, where what the others say is
line_3 : (r : Result (Option ZarrJson) StorageError) (after : Meaning) → RefusesInvalid r → IsBadByDocument after → IsBadByDocument (version_3_line r after)
line_3 (Ok None) after h rest = rest
line_3 (Ok (Some (node_json m))) after h rest = tt
line_3 (Ok (Some Version2)) after h rest = tt
line_3 (Err e) after h rest = h

-- so is a document of version 2
line_2 : {D : Type 0} (kind : D → NodeMetadata) (with : AttributesDocument → D → D) (r : Result (Option D) StorageError) (z : Result (Option AttributesDocument) StorageError) (after : Meaning)
    → RefusesInvalid r → RefusesInvalid z → IsBadByDocument after → IsBadByDocument (version_2_line kind with r z after)
line_2 kind with (Ok None) z after h i rest = rest
line_2 kind with (Ok (Some d)) (Ok None) after h i rest = tt
line_2 kind with (Ok (Some d)) (Ok (Some a)) after h i rest = tt
line_2 kind with (Ok (Some d)) (Err e) after h i rest = i
line_2 kind with (Err e) z after h i rest = h

module _ (s : Contents) (p : Path) where
  -- the attributes beside a document
  beside : RefusesInvalid (attributes_at s p)
  beside = at_invalid (of_bytes (attributes_document_in s.numbers)) s (p ++ zattrs ∷ [])

  -- what `zarr.json` says
  by_zarr_json : (after : Meaning) → IsBadByDocument after → IsBadByDocument (zarr_json_line (in_bytes s.numbers) s.values p after)
  by_zarr_json after rest = subst IsBadByDocument (sym (zarr_json_line_is s p _ refl _ refl after)) (line_3 _ after (at_invalid (of_bytes (zarr_json_in s.numbers)) s (p ++ zarr_json ∷ [])) rest)

  -- what `.zarray` says
  by_zarray : (after : Meaning) → IsBadByDocument after → IsBadByDocument (zarray_line (in_bytes s.numbers) s.values p after)
  by_zarray after rest = subst IsBadByDocument (sym (zarray_line_is s p _ refl _ refl _ refl after)) (line_2 (λ m. Array (array_v2 m)) array_with _ _ after (at_invalid (of_bytes (array_v2_in s.numbers)) s (p ++ zarray ∷ [])) beside rest)

  -- what `.zgroup` says
  by_zgroup : (after : Meaning) → IsBadByDocument after → IsBadByDocument (zgroup_line (in_bytes s.numbers) s.values p after)
  by_zgroup after rest = subst IsBadByDocument (sym (zgroup_line_is s p _ refl _ refl _ refl after)) (line_2 (λ m. Group (group_v2 m)) group_with _ _ after (at_invalid (of_bytes (group_v2_in s.numbers)) s (p ++ zgroup ∷ [])) beside rest)

-- a path is bad by a document alone
by_document : (s : Contents) (v : MetadataRetrieveVersion) (p : Path) → IsBadByDocument (meaning s v p)
by_document s Default p = subst IsBadByDocument (sym (default_is s p)) (by_zarr_json s p _ (by_zarray s p _ (by_zgroup s p nothing tt)))
by_document s V3 p = subst IsBadByDocument (sym (v3_is s p)) (by_zarr_json s p nothing tt)
by_document s V2 p = subst IsBadByDocument (sym (v2_is s p)) (by_zarray s p _ (by_zgroup s p nothing tt))

-- what a path is bad for is of a document
pub bad_by_document : (s : Contents) (v : MetadataRetrieveVersion) (p : Path) (e : NodeCreateError) → meaning s v p ≡ bad e → IsOfDocument e
bad_by_document s v p e is = subst IsBadByDocument is (by_document s v p)
