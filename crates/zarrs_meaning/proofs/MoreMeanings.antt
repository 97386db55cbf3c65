-- What a path means where numbers have to be whole it means where they may be any, unless it is bad.
use Rattle.std.proofs.Common.{◌≡◌, true, false, true≢false, [], ◌∷◌, ◌++◌, Option, Some, None, Result, Ok, Err, refl, ap, ◌∙◌}
use Rattle.std.specs.FinMap.{FinMap, get}
use Rattle.serde_json.specs.Data.{Data}
use Rattle.zarrs_store.specs.Segments.{Segments, key_cmp}
use Rattle.zarrs_store.specs.declared.storage_error.StorageError.{StorageError}
use Rattle.zarrs_fault.specs.declared.fault.MetadataFault.{MetadataFault}
use Rattle.zarrs_fault.specs.declared.numbers.Numbers.{Numbers}
use Rattle.zarrs_fault.specs.declared.numbers.Numbers.TheVariants.{Whole}
use Rattle.zarrs_config.specs.declared.version.MetadataRetrieveVersion.{MetadataRetrieveVersion}
use Rattle.zarrs_config.specs.declared.version.MetadataRetrieveVersion.TheVariants.{Default, V3, V2}
use Rattle.zarrs_path.specs.Paths.{Path}
use Rattle.zarrs_path.specs.Keys.{zarr_json, zarray, zgroup, zattrs}
use Rattle.zarrs_form.specs.Documents as steps
use Rattle.zarrs_form.specs.Documents.{tree_or_fault, json_of}
use Rattle.zarrs_meta.specs.ArrayV2.{array_v2_in}
use Rattle.zarrs_meta.specs.GroupV2.{group_v2_in}
use Rattle.zarrs_meta.specs.Attributes.{attributes_document_in}
use Rattle.zarrs_meta.specs.Node.{zarr_json_in, array_with, group_with}
use Rattle.zarrs_meta.specs.declared.array_v2.ArrayMetadataV2.{ArrayMetadataV2}
use Rattle.zarrs_meta.specs.declared.attributes.AttributesDocument.{AttributesDocument}
use Rattle.zarrs_meta.specs.declared.group_v2.GroupMetadataV2.{GroupMetadataV2}
use Rattle.zarrs_meta.specs.declared.node.ArrayMetadata.TheVariants.{V2 as array_v2}
use Rattle.zarrs_meta.specs.declared.node.GroupMetadata.TheVariants.{V2 as group_v2}
use Rattle.zarrs_meta.specs.declared.node.NodeMetadata.{NodeMetadata}
use Rattle.zarrs_meta.specs.declared.node.NodeMetadata.TheVariants.{Group, Array}
use Rattle.zarrs_meta.specs.declared.node.ZarrJson.{ZarrJson}
use Rattle.zarrs_meta.specs.declared.node.ZarrJson.TheVariants.{Node, Version2}
use Rattle.zarrs_meta.specs.Laws.{ReadsToo}
use Rattle.zarrs_meta.proofs.MoreNumbers.{zarr_json_too, array_v2_too, group_v2_too, attributes_too}
use Rattle.zarrs_meaning.specs.Laws.{WholePathsMeanTheSame}
use Rattle.zarrs_meaning.specs.DocumentsAtKeys.{Reading, in_bytes, in_trees, document_or_fault, document_from, document_at, attributes_in}
use Rattle.zarrs_meaning.specs.Meaning.{Meaning, nothing, version_3_line, version_2_line, zarr_json_line, zarray_line, zgroup_line, meaning_in}
use Rattle.zarrs_meaning.specs.Meaning.{is_bad}

-- ---- lines and readings

-- a document of a store reads where the other does
abbrev StandsToo : {D : Type 0} → Result (Option D) StorageError → Result (Option D) StorageError → Type 0
StandsToo {D} more r = (x : Option D) → r ≡ Ok x → more ≡ Ok x

-- a path means what it means by the others, where that is not bad
abbrev pub MeansToo : Meaning → Meaning → Type 0
MeansToo more m = is_bad m ≡ false → more ≡ m

-- a document that reads too stands too
fault_too : {D : Type 0} (key : Segments) (more r : Result D MetadataFault) → ReadsToo more r → StandsToo (document_or_fault key more) (document_or_fault key r)
fault_too key more (Ok d) h x e = ap (document_or_fault key) (h d refl) ∙ e
fault_too key more (Err fault) h x e = cc

-- the line of `zarr.json`
line_3_too : (more r : Result (Option ZarrJson) StorageError) (after rest : Meaning) → StandsToo more r → MeansToo after rest → MeansToo (version_3_line more after) (version_3_line r rest)
line_3_too more (Ok None) after rest h k fine = ap (λ s. version_3_line s after) (h None refl) ∙ k fine
line_3_too more (Ok (Some (Node m))) after rest h k fine = ap (λ s. version_3_line s after) (h (Some (Node m)) refl)
line_3_too more (Ok (Some Version2)) after rest h k fine = absurd (true≢false fine)
line_3_too more (Err e) after rest h k fine = absurd (true≢false fine)

-- a line of version 2
line_2_too : {D : Type 0} (kind : D → NodeMetadata) (join : AttributesDocument → D → D) (more r : Result (Option D) StorageError) (beside t : Result (Option AttributesDocument) StorageError) (after rest : Meaning)
    → StandsToo more r → StandsToo beside t → MeansToo after rest → MeansToo (version_2_line kind join more beside after) (version_2_line kind join r t rest)
line_2_too kind join more (Ok None) beside t after rest h b k fine = ap (λ s. version_2_line kind join s beside after) (h None refl) ∙ k fine
line_2_too kind join more (Ok (Some d)) beside (Ok None) after rest h b k fine = λ i. version_2_line kind join (h (Some d) refl i) (b None refl i) after
line_2_too kind join more (Ok (Some d)) beside (Ok (Some a)) after rest h b k fine = λ i. version_2_line kind join (h (Some d) refl i) (b (Some a) refl i) after
line_2_too kind join more (Ok (Some d)) beside (Err e) after rest h b k fine = absurd (true≢false fine)
line_2_too kind join more (Err e) beside t after rest h b k fine = absurd (true≢false fine)

-- each document that reads by one reading reads by the other, where its kind reads so in these numbers
abbrev pub ReadMore : {V : Type 0} → Numbers → Reading V → Reading V → Type 1
ReadMore {V} numbers more less = (D : Type 0) (document : Numbers → Data → Result D MetadataFault) → ((d : Data) → ReadsToo (document numbers d) (document Whole d)) → (x : V) → ReadsToo (more D document x) (less D document x)

module _ {V : Type 0} (numbers : Numbers) (more less : Reading V) (too : ReadMore numbers more less) (s : FinMap key_cmp V) (p : Path) where
  -- what stands at a key
  from_too : (D : Type 0) (document : Numbers → Data → Result D MetadataFault) → ((d : Data) → ReadsToo (document numbers d) (document Whole d)) → (key : Segments) (o : Option V)
      → StandsToo (document_from (more D document) key o) (document_from (less D document) key o)
  from_too D document reads key None = λ x e. e
  from_too D document reads key (Some x) = fault_too key (more D document x) (less D document x) (too D document reads x)

  -- the attributes of the path
  attributes_stand : StandsToo (attributes_in more s p) (attributes_in less s p)
  unfolding document_at
  attributes_stand = from_too AttributesDocument attributes_document_in (attributes_too numbers) (p ++ zattrs ∷ []) (get s (p ++ zattrs ∷ []))

  -- what `.zgroup` means by the lesser reading, where it is not bad, it means by the other
  zgroup_too : MeansToo (zgroup_line more s p nothing) (zgroup_line less s p nothing)
  unfolding zgroup_line document_at
  zgroup_too = line_2_too (λ m. Group (group_v2 m)) group_with _ _ _ _ nothing nothing
      (from_too GroupMetadataV2 group_v2_in (group_v2_too numbers) (p ++ zgroup ∷ []) (get s (p ++ zgroup ∷ []))) attributes_stand (λ fine. refl)

  -- what `.zarray` means by the lesser reading, where it is not bad, it means by the other
  zarray_too : MeansToo (zarray_line more s p (zgroup_line more s p nothing)) (zarray_line less s p (zgroup_line less s p nothing))
  unfolding zarray_line document_at
  zarray_too = line_2_too (λ m. Array (array_v2 m)) array_with _ _ _ _ (zgroup_line more s p nothing) (zgroup_line less s p nothing)
      (from_too ArrayMetadataV2 array_v2_in (array_v2_too numbers) (p ++ zarray ∷ []) (get s (p ++ zarray ∷ []))) attributes_stand zgroup_too

  -- what `zarr.json` means by the lesser reading, where it is not bad, it means by the other, if what follows does
  zarr_json_stands : (after rest : Meaning) → MeansToo after rest → MeansToo (zarr_json_line more s p after) (zarr_json_line less s p rest)
  unfolding zarr_json_line document_at
  zarr_json_stands after rest k = line_3_too _ _ after rest (from_too ZarrJson zarr_json_in (zarr_json_too numbers) (p ++ zarr_json ∷ []) (get s (p ++ zarr_json ∷ []))) k

  -- what a path means by the one reading, where that is not bad, it means by the other
  pub meaning_too : (v : MetadataRetrieveVersion) → MeansToo (meaning_in more s v p) (meaning_in less s v p)
  unfolding meaning_in
  meaning_too Default = zarr_json_stands (zarray_line more s p (zgroup_line more s p nothing)) (zarray_line less s p (zgroup_line less s p nothing)) zarray_too
  meaning_too V3 = zarr_json_stands nothing nothing (λ fine. refl)
  meaning_too V2 = zarray_too

-- trees read so
pub trees_more : (numbers : Numbers) → ReadMore numbers (in_trees numbers) (in_trees Whole)
trees_more numbers D document reads d = reads d

-- bytes that are no JSON text do not read, and those that are read as their tree
tree_too : {D : Type 0} (numbers : Numbers) (document : Numbers → Data → Result D MetadataFault) → ((d : Data) → ReadsToo (document numbers d) (document Whole d)) → (r : Result Data MetadataFault)
    → ReadsToo (steps.◌>>=◌ r (document numbers)) (steps.◌>>=◌ r (document Whole))
tree_too numbers document reads (Ok d) = reads d
tree_too numbers document reads (Err fault) = λ x e. e

-- so bytes read so
pub bytes_more : (numbers : Numbers) → ReadMore numbers (in_bytes numbers) (in_bytes Whole)
bytes_more numbers D document reads bytes = tree_too numbers document reads (tree_or_fault (json_of bytes))

-- ---- the law

-- paths that are not bad mean the same
pub whole_paths_mean_the_same : WholePathsMeanTheSame
whole_paths_mean_the_same values numbers v p = meaning_too numbers (in_bytes numbers) (in_bytes Whole) (bytes_more numbers) values p v
