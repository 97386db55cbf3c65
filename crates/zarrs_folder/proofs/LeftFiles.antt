-- What a broken-off writing left beside the document of a group, and what was loaded of it.
use Rattle.std.proofs.Common.{◌≡◌, ℕ, true, false, List, [], ◌∷◌, ◌++◌, Option, Some, None, Ok, true≢false, refl, sym, subst, ◌∙◌, Contains}
use Rattle.std.proofs.lemmas.List.Elements.{Contains-append_right}
use Rattle.zarrs_store.specs.Contents.{Contents}
use Rattle.zarrs_path.specs.Keys.{zarr_json, zarray, zgroup, zmetadata}
use Rattle.zarrs_path.specs.Paths.{Path}
use Rattle.zarrs_meta.specs.declared.group_v2.GroupMetadataV2.{GroupMetadataV2}
use Rattle.zarrs_meta.specs.declared.group_v3.GroupMetadataV3.{GroupMetadataV3}
use Rattle.zarrs_meta.specs.declared.node.GroupMetadata.TheVariants.{V2 as group_v2, V3 as group_v3}
use Rattle.zarrs_meta.specs.declared.node.NodeMetadata.TheVariants.{Group}
use Rattle.zarrs_config.specs.declared.version.MetadataRetrieveVersion.TheVariants.{Default}
use Rattle.zarrs_meaning.specs.DocumentsAtKeys.{in_bytes, attributes_at}
use Rattle.zarrs_meaning.specs.Meaning.{Meaning, meaning, node, nothing, zarray_line, zgroup_line}
use Rattle.zarrs_node.proofs.ForestsBeside.{Contains-first}
use Rattle.zarrs_meaning.proofs.Meanings.{default_is, document_none, v3_is, zarray_line_is, zgroup_line_is}
use Rattle.zarrs_meaning.proofs.Versions.{three_alone}
use Rattle.zarrs_write.specs.ReplacingDocuments.{temporary}
use Rattle.zarrs_folder.specs.PrunedStores.{HasLoaded, HasSameFile, at_file, left_files, node_files}
use Rattle.zarrs_folder.specs.declared.documents.Documents.TheVariants.{All}
use Rattle.zarrs_folder.proofs.DecidingDocuments.{json_absent}
use Rattle.zarrs_folder.proofs.GroupDocuments.{by_zarray, by_zarr_json, document_version}

-- ---- what makes a group

-- without `.zarray`, what the other documents say
array_absent : (s : Contents) (p : Path) → at_file s.values p zarray ≡ None → (after : Meaning) → zarray_line (in_bytes s.numbers) s.values p after ≡ after
array_absent s p none after = zarray_line_is s p (p ++ zarray ∷ []) refl (Ok None) (document_none _ s (p ++ zarray ∷ []) (sym none)) (attributes_at s p) refl after

-- without `.zgroup` too
group_absent : (s : Contents) (p : Path) → at_file s.values p zgroup ≡ None → (after : Meaning) → zgroup_line (in_bytes s.numbers) s.values p after ≡ after
group_absent s p none after = zgroup_line_is s p (p ++ zgroup ∷ []) refl (Ok None) (document_none _ s (p ++ zgroup ∷ []) (sym none)) (attributes_at s p) refl after

module _ (s : Contents) (p : Path) where
  -- a path with none of the three means nothing
  nothing_there : at_file s.values p zarr_json ≡ None → at_file s.values p zarray ≡ None → at_file s.values p zgroup ≡ None → meaning s Default p ≡ nothing
  nothing_there json array group =
      default_is s p ∙ json_absent s p json (zarray_line (in_bytes s.numbers) s.values p (zgroup_line (in_bytes s.numbers) s.values p nothing))
      ∙ array_absent s p array (zgroup_line (in_bytes s.numbers) s.values p nothing) ∙ group_absent s p group nothing

  -- one with `zarr.json` is no group of version 2
  no_json : (g : GroupMetadataV2) → meaning s Default p ≡ node (Group (group_v2 g)) → at_file s.values p zarr_json ≡ None
  no_json g means = by (at_file s.values p zarr_json) refl
    where
      by : (o : Option (List ℕ)) → at_file s.values p zarr_json ≡ o → at_file s.values p zarr_json ≡ None
      by None is = is
      by (Some bytes) is =
          let three : false ≡ true = document_version s.numbers bytes (Group (group_v2 g)) (by_zarr_json s p bytes (Group (group_v2 g)) is means) in
          absurd (true≢false (sym three))

  -- nor is one with `.zarray`
  no_array : (g : GroupMetadataV2) → meaning s Default p ≡ node (Group (group_v2 g)) → at_file s.values p zarray ≡ None
  no_array g means = by (at_file s.values p zarray) refl
    where
      by : (o : Option (List ℕ)) → at_file s.values p zarray ≡ o → at_file s.values p zarray ≡ None
      by None is = is
      by (Some bytes) is = let kind : true ≡ false = by_zarray s p bytes (Group (group_v2 g)) (no_json g means) is means in absurd (true≢false kind)

  -- a group of version 3 has a `zarr.json`
  some_json : (g : GroupMetadataV3) → meaning s Default p ≡ node (Group (group_v3 g)) → (bytes : List ℕ) × (at_file s.values p zarr_json ≡ Some bytes)
  some_json g means = by (at_file s.values p zarr_json) refl
    where
      by : (o : Option (List ℕ)) → at_file s.values p zarr_json ≡ o → (bytes : List ℕ) × (at_file s.values p zarr_json ≡ Some bytes)
      by (Some bytes) is = (bytes, is)
      by None is = let no : nothing ≡ node (Group (group_v3 g)) = sym (v3_is s p ∙ json_absent s p is nothing) ∙ three_alone s p (Group (group_v3 g)) refl means in cc

  -- and one of version 2 a `.zgroup`
  some_group : (g : GroupMetadataV2) → meaning s Default p ≡ node (Group (group_v2 g)) → (bytes : List ℕ) × (at_file s.values p zgroup ≡ Some bytes)
  some_group g means = by (at_file s.values p zgroup) refl
    where
      by : (o : Option (List ℕ)) → at_file s.values p zgroup ≡ o → (bytes : List ℕ) × (at_file s.values p zgroup ≡ Some bytes)
      by (Some bytes) is = (bytes, is)
      by None is = let no : nothing ≡ node (Group (group_v2 g)) = sym (nothing_there (no_json g means) (no_array g means) is) ∙ means in cc

-- ---- what was loaded

module _ (S L : Contents) (p : Path) (got : HasLoaded All S.values L.values p) where
  -- one of what may be left
  left_got : (file : List ℕ) → Contains (left_files (at_file S.values p zarr_json) (at_file S.values p zarray) (at_file S.values p zgroup)) file → HasSameFile S.values L.values p file
  left_got file in' = got file (Contains-append_right node_files (left_files (at_file S.values p zarr_json) (at_file S.values p zarray) (at_file S.values p zgroup)) file in')

  -- that beside the `zarr.json` of a group
  pub left_of_v3 : (g : GroupMetadataV3) → meaning S Default p ≡ node (Group (group_v3 g)) → HasSameFile S.values L.values p (temporary zarr_json)
  left_of_v3 g means = left_got (temporary zarr_json)
      (subst (λ o. Contains (left_files o (at_file S.values p zarray) (at_file S.values p zgroup)) (temporary zarr_json)) (sym (some_json S p g means).1) (Contains-first (temporary zarr_json) []))

  -- that beside the `.zgroup` of a group
  pub left_of_v2 : (g : GroupMetadataV2) → meaning S Default p ≡ node (Group (group_v2 g)) → HasSameFile S.values L.values p (temporary zmetadata)
  left_of_v2 g means =
      let w = some_group S p g means in
      left_got (temporary zmetadata)
      (subst (λ o. Contains (left_files o (at_file S.values p zarray) (at_file S.values p zgroup)) (temporary zmetadata)) (sym (no_json S p g means))
      (subst (λ o. Contains (left_files None o (at_file S.values p zgroup)) (temporary zmetadata)) (sym (no_array S p g means))
      (subst (λ o. Contains (left_files None None o) (temporary zmetadata)) (sym w.1) (Contains-first (temporary zmetadata) []))))
