-- The documents that are loaded of a path, and what they decide.
use Rattle.std.proofs.Common.{◌≡◌, ⊎_elim, ℕ, Bool, true, false, List, [], ◌∷◌, ◌++◌, Option, Some, None, Result, Ok, Err, is_some, true≢false, refl, sym, ap, subst, ◌∙◌, arith, Contains}
use Rattle.std.specs.Prelude.{◌||◌}
use Rattle.std.proofs.lemmas.List.Elements.{Contains-append_left, Contains-append_right, Contains-append_cases}
use Rattle.zarrs_fault.specs.declared.fault.MetadataFault.{MetadataFault}
use Rattle.zarrs_store.specs.Segments.{Segments}
use Rattle.zarrs_store.specs.Contents.{Contents, Values}
use Rattle.zarrs_store.specs.declared.storage_error.StorageError.{StorageError}
use Rattle.zarrs_path.specs.Keys.{zarr_json, zarray, zgroup, zattrs, zmetadata}
use Rattle.zarrs_path.specs.Paths.{Path}
use Rattle.zarrs_form.specs.Documents.{of_bytes}
use Rattle.zarrs_meta.specs.ArrayV2.{array_v2_in}
use Rattle.zarrs_meta.specs.declared.array_v2.ArrayMetadataV2.{ArrayMetadataV2}
use Rattle.zarrs_meta.specs.Attributes.{attributes_document_in}
use Rattle.zarrs_meta.specs.Node.{zarr_json_in, array_with}
use Rattle.zarrs_meta.specs.declared.attributes.AttributesDocument.{AttributesDocument}
use Rattle.zarrs_meta.specs.declared.node.ArrayMetadata.TheVariants.{V2 as array_v2}
use Rattle.zarrs_meta.specs.declared.node.NodeMetadata.TheVariants.{Array}
use Rattle.zarrs_config.specs.declared.version.MetadataRetrieveVersion.TheVariants.{Default}
use Rattle.zarrs_meaning.specs.DocumentsAtKeys.{in_bytes, document_or_fault, document_from, document_at, attributes_at}
use Rattle.zarrs_meaning.specs.Meaning.{Meaning, meaning, nothing, version_2_line, zarr_json_line, zarray_line, zgroup_line}
use Rattle.zarrs_node.proofs.blocks.Current.{meaning_same}
use Rattle.zarrs_meaning.proofs.Versions.{by_zarr_json}
use Rattle.zarrs_node.proofs.ForestsBeside.{Contains-first, Contains-cons}
use Rattle.zarrs_meaning.proofs.Meanings.{document_none, zarr_json_line_is, zarray_line_is, default_is}
use Rattle.zarrs_node.proofs.Order.{contains_cases}
use Rattle.zarrs_write.specs.ReplacingDocuments.{temporary}
use Rattle.zarrs_folder.specs.PrunedStores.{Grows, HasLoaded, HasSameFile, HasSameFiles, at_file, deciding_files, left_files, node_files}
use Rattle.zarrs_folder.specs.StepsOfLoadingNodes.{HasFound}
use Rattle.zarrs_folder.specs.declared.documents.Documents.{Documents}
use Rattle.zarrs_folder.specs.declared.documents.Documents.TheVariants.{All, Deciding}
use Rattle.zarrs_folder.specs.declared.read.Found.{Found}

-- ---- files

-- what holds of each of no files does
pub of_none : {A : Type 0} (P : A → Type 0) (file : A) → Contains [] file → P file
of_none P file in' = absurd (omega (arith, in'.1))

-- what holds of a file and of each of some others holds of each of all
pub of_more : {A : Type 0} (P : A → Type 0) (x : A) (xs : List A) → P x → ((file : A) → Contains xs file → P file) → (file : A) → Contains (x ∷ xs) file → P file
of_more P x xs here there file in' = ⊎_elim (λ is. subst P is here) (there file) (contains_cases x xs file in')

-- the documents by their names
pub has_zarr_json : Contains node_files zarr_json
has_zarr_json = Contains-first zarr_json (zarray ∷ zgroup ∷ zattrs ∷ zmetadata ∷ [])

pub has_zarray : Contains node_files zarray
has_zarray = Contains-cons zarr_json (zarray ∷ zgroup ∷ zattrs ∷ zmetadata ∷ []) zarray (Contains-first zarray (zgroup ∷ zattrs ∷ zmetadata ∷ []))

pub has_zgroup : Contains node_files zgroup
has_zgroup = Contains-append_right (zarr_json ∷ zarray ∷ []) (zgroup ∷ zattrs ∷ zmetadata ∷ []) zgroup (Contains-first zgroup (zattrs ∷ zmetadata ∷ []))

pub has_zattrs : Contains node_files zattrs
has_zattrs = Contains-append_right (zarr_json ∷ zarray ∷ zgroup ∷ []) (zattrs ∷ zmetadata ∷ []) zattrs (Contains-first zattrs (zmetadata ∷ []))

pub has_zmetadata : Contains node_files zmetadata
has_zmetadata = Contains-append_right (zarr_json ∷ zarray ∷ zgroup ∷ zattrs ∷ []) (zmetadata ∷ []) zmetadata (Contains-first zmetadata [])

-- those that decide are among them
deciding_known : (o n : Option (List ℕ)) (file : List ℕ) → Contains (deciding_files o n) file → Contains node_files file
deciding_known (Some bytes) n = of_more (Contains node_files) zarr_json [] has_zarr_json (of_none (Contains node_files))
deciding_known None (Some bytes) =
    of_more (Contains node_files) zarr_json (zarray ∷ zattrs ∷ []) has_zarr_json
    (of_more (Contains node_files) zarray (zattrs ∷ []) has_zarray (of_more (Contains node_files) zattrs [] has_zattrs (of_none (Contains node_files))))
deciding_known None None =
    of_more (Contains node_files) zarr_json (zarray ∷ zgroup ∷ zattrs ∷ []) has_zarr_json
    (of_more (Contains node_files) zarray (zgroup ∷ zattrs ∷ []) has_zarray
    (of_more (Contains node_files) zgroup (zattrs ∷ []) has_zgroup (of_more (Contains node_files) zattrs [] has_zattrs (of_none (Contains node_files)))))

-- what has the documents of a path has those that decide
pub deciding_of_files : (V W : Values) (p : Path) → HasSameFiles V W p → HasLoaded Deciding V W p
deciding_of_files V W p same file in' = same file (deciding_known (at_file V p zarr_json) (at_file V p zarray) file in')

-- and with what may be left beside them all
pub all_of_files : (V W : Values) (p : Path) → HasSameFiles V W p
    → ((file : List ℕ) → Contains (left_files (at_file V p zarr_json) (at_file V p zarray) (at_file V p zgroup)) file → HasSameFile V W p file) → HasLoaded All V W p
all_of_files V W p same left file in' = ⊎_elim (same file) (left file)
    (Contains-append_cases node_files (left_files (at_file V p zarr_json) (at_file V p zarray) (at_file V p zgroup)) file in')

-- what is loaded of all has the documents
pub files_of_all : (V W : Values) (p : Path) → HasLoaded All V W p → HasSameFiles V W p
files_of_all V W p got file in' = got file (Contains-append_left node_files (left_files (at_file V p zarr_json) (at_file V p zarray) (at_file V p zgroup)) file in')

-- both of what may be left are all of it
pub left_of_both : (P : List ℕ → Type 0) → P (temporary zarr_json) → P (temporary zmetadata) → (o n g : Option (List ℕ)) (file : List ℕ) → Contains (left_files o n g) file → P file
left_of_both P first second (Some bytes) n g = of_more P (temporary zarr_json) [] first (of_none P)
left_of_both P first second None (Some bytes) g = of_none P
left_of_both P first second None None (Some bytes) = of_more P (temporary zmetadata) [] second (of_none P)
left_of_both P first second None None None = of_none P

-- what is loaded of a path stays so as what is loaded grows
pub files_grow : (V L M : Values) (p : Path) → Grows V L M → HasSameFiles V L p → HasSameFiles V M p
files_grow V L M p grows same file in' = grows.same (p ++ file ∷ []) (same file in')

-- ---- by what was found

-- nothing before a document was found, so it is itself there, or not
pub found_alone : (o : Option (List ℕ)) (t : Bool) → t ≡ is_some o || false → is_some o ≡ t
found_alone (Some bytes) t is = sym is
found_alone None t is = sym is

-- where it is there
there_is : {X : Type 0} (o : Option (List ℕ)) → is_some o ≡ true → ((bytes : List ℕ) → o ≡ Some bytes → X) → X
there_is (Some bytes) is then = then bytes refl
there_is None is then = absurd (true≢false (sym is))

-- and where it is not
none_is : (o : Option (List ℕ)) → is_some o ≡ false → o ≡ None
none_is (Some bytes) is = absurd (true≢false is)
none_is None is = refl

module _ (V W : Values) (p : Path) where
  -- of a path with `zarr.json` that is what decides
  pub by_json : is_some (at_file V p zarr_json) ≡ true → HasSameFile V W p zarr_json → HasLoaded Deciding V W p
  by_json is json = there_is (at_file V p zarr_json) is (λ bytes at file in'.
      of_more (HasSameFile V W p) zarr_json [] json (of_none (HasSameFile V W p)) file (subst (λ o. Contains (deciding_files o (at_file V p zarray)) file) at in'))

  -- of one without, and with `.zarray`, that and its attributes
  pub by_array : is_some (at_file V p zarr_json) ≡ false → is_some (at_file V p zarray) ≡ true → HasSameFile V W p zarr_json → HasSameFile V W p zarray → HasSameFile V W p zattrs → HasLoaded Deciding V W p
  by_array lacks is json array attributes = there_is (at_file V p zarray) is (λ bytes at file in'.
      of_more (HasSameFile V W p) zarr_json (zarray ∷ zattrs ∷ []) json
      (of_more (HasSameFile V W p) zarray (zattrs ∷ []) array (of_more (HasSameFile V W p) zattrs [] attributes (of_none (HasSameFile V W p)))) file
      (subst (λ o. Contains (deciding_files None o) file) at (subst (λ o. Contains (deciding_files o (at_file V p zarray)) file) (none_is (at_file V p zarr_json) lacks) in')))

  -- of any other `.zgroup` and its attributes too
  pub by_group : is_some (at_file V p zarr_json) ≡ false → is_some (at_file V p zarray) ≡ false → HasSameFile V W p zarr_json → HasSameFile V W p zarray → HasSameFile V W p zgroup
      → HasSameFile V W p zattrs → HasLoaded Deciding V W p
  by_group lacks none json array group attributes file in' =
      of_more (HasSameFile V W p) zarr_json (zarray ∷ zgroup ∷ zattrs ∷ []) json
      (of_more (HasSameFile V W p) zarray (zgroup ∷ zattrs ∷ []) array
      (of_more (HasSameFile V W p) zgroup (zattrs ∷ []) group (of_more (HasSameFile V W p) zattrs [] attributes (of_none (HasSameFile V W p))))) file
      (subst (λ o. Contains (deciding_files None o) file) (none_is (at_file V p zarray) none) (subst (λ o. Contains (deciding_files o (at_file V p zarray)) file) (none_is (at_file V p zarr_json) lacks) in'))

-- a test by a document and what was found before, where nothing was
pub first_found : (V : Values) (p : Path) (file : List ℕ) (t : Bool) → t ≡ is_some (at_file V p file) || false → is_some (at_file V p file) ≡ t
first_found V p file t is = found_alone (at_file V p file) t is

-- ---- what may be left, by what was found

-- of two tests the second holds and the first does not
second_alone : (o : Option (List ℕ)) (s t : Bool) → t ≡ is_some o || s → t ≡ true → s ≡ false → is_some o ≡ true
second_alone (Some bytes) s t is holds lacks = refl
second_alone None s t is holds lacks = absurd (true≢false (sym holds ∙ is ∙ lacks))

-- neither holds
neither_there : (o : Option (List ℕ)) (s t : Bool) → t ≡ is_some o || s → t ≡ false → is_some o ≡ false
neither_there (Some bytes) s t is lacks = absurd (true≢false (sym is ∙ lacks))
neither_there None s t is lacks = refl

module _ (V W : Values) (p : Path) (f : Found) (found : HasFound V p f) (same : HasSameFiles V W p) where
  -- beside `zarr.json` its temporary file
  pub left_by_json : f.zarr_json ≡ true → HasSameFile V W p (temporary zarr_json) → HasLoaded All V W p
  left_by_json is left = all_of_files V W p same (there_is (at_file V p zarr_json) (sym found.zarr_json ∙ is) (λ bytes at file in'.
      of_more (HasSameFile V W p) (temporary zarr_json) [] left (of_none (HasSameFile V W p)) file (subst (λ o. Contains (left_files o (at_file V p zarray) (at_file V p zgroup)) file) at in')))

  -- what is left where there is no `zarr.json`
  without_json : f.zarr_json ≡ false → (file : List ℕ) → Contains (left_files (at_file V p zarr_json) (at_file V p zarray) (at_file V p zgroup)) file
      → Contains (left_files None (at_file V p zarray) (at_file V p zgroup)) file
  without_json lacks file in' = subst (λ o. Contains (left_files o (at_file V p zarray) (at_file V p zgroup)) file) (none_is (at_file V p zarr_json) (sym found.zarr_json ∙ lacks)) in'

  -- and no `.zarray`
  without_array : f.zarr_json ≡ false → f.array ≡ false → (file : List ℕ) → Contains (left_files (at_file V p zarr_json) (at_file V p zarray) (at_file V p zgroup)) file
      → Contains (left_files None None (at_file V p zgroup)) file
  without_array lacks none file in' = subst (λ o. Contains (left_files None o (at_file V p zgroup)) file)
      (none_is (at_file V p zarray) (neither_there (at_file V p zarray) f.zarr_json f.array found.array none)) (without_json lacks file in')

  -- beside `.zarray` nothing
  pub left_by_array : f.zarr_json ≡ false → f.array ≡ true → HasLoaded All V W p
  left_by_array lacks holds = all_of_files V W p same (there_is (at_file V p zarray) (second_alone (at_file V p zarray) f.zarr_json f.array found.array holds lacks) (λ bytes at file in'.
      of_none (HasSameFile V W p) file (subst (λ o. Contains (left_files None o (at_file V p zgroup)) file) at (without_json lacks file in'))))

  -- of the group of version 2 that of its block
  pub left_by_group : f.zarr_json ≡ false → f.array ≡ false → f.group ≡ true → HasSameFile V W p (temporary zmetadata) → HasLoaded All V W p
  left_by_group lacks none holds left = all_of_files V W p same (there_is (at_file V p zgroup) (second_alone (at_file V p zgroup) f.array f.group found.group holds none) (λ bytes at file in'.
      of_more (HasSameFile V W p) (temporary zmetadata) [] left (of_none (HasSameFile V W p)) file
      (subst (λ o. Contains (left_files None None o) file) at (without_array lacks none file in'))))

  -- of any other path nothing
  pub left_by_none : f.zarr_json ≡ false → f.array ≡ false → f.group ≡ false → HasLoaded All V W p
  left_by_none lacks none last = all_of_files V W p same (λ file in'. of_none (HasSameFile V W p) file (subst (λ o. Contains (left_files None None o) file)
      (none_is (at_file V p zgroup) (neither_there (at_file V p zgroup) f.array f.group found.group last)) (without_array lacks none file in')))

-- ---- what they decide

-- where there is no `zarr.json`, the others say what a path means
pub json_absent : (s : Contents) (p : Path) → at_file s.values p zarr_json ≡ None → (after : Meaning) → zarr_json_line (in_bytes s.numbers) s.values p after ≡ after
json_absent s p none after = zarr_json_line_is s p (p ++ zarr_json ∷ []) refl (Ok None) (document_none (of_bytes (zarr_json_in s.numbers)) s (p ++ zarr_json ∷ []) (sym none)) after

-- a document of version 2 that is there decides
array_decides : (k : Segments) (r : Result ArrayMetadataV2 MetadataFault) (z : Result (Option AttributesDocument) StorageError) (after other : Meaning)
    → version_2_line (λ m. Array (array_v2 m)) array_with (document_or_fault k r) z after ≡ version_2_line (λ m. Array (array_v2 m)) array_with (document_or_fault k r) z other
array_decides k (Ok m) (Ok (Some a)) after other = refl
array_decides k (Ok m) (Ok None) after other = refl
array_decides k (Ok m) (Err e) after other = refl
array_decides k (Err x) z after other = refl

-- the line of `.zarray` where it is there
array_there : (s : Contents) (p : Path) (bytes : List ℕ) → at_file s.values p zarray ≡ Some bytes → (after : Meaning)
    → zarray_line (in_bytes s.numbers) s.values p after ≡ version_2_line (λ m. Array (array_v2 m)) array_with (document_or_fault (p ++ zarray ∷ []) (of_bytes (array_v2_in s.numbers) bytes)) (attributes_at s p) after
unfolding document_at
array_there s p bytes here after = zarray_line_is s p _ refl _ (ap (document_from (of_bytes (array_v2_in s.numbers)) (p ++ zarray ∷ [])) here) _ refl after

-- the attributes are the same where their document is
attributes_same : (S L : Contents) (p : Path) → L.numbers ≡ S.numbers → HasSameFile S.values L.values p zattrs → attributes_at L p ≡ attributes_at S p
unfolding document_at
attributes_same S L p alike same = λ i. document_from (of_bytes (attributes_document_in (alike i))) (p ++ zattrs ∷ []) (same i)

-- what the other documents say
abbrev others_say : Contents → Path → Meaning
others_say s p = zgroup_line (in_bytes s.numbers) s.values p nothing

-- where there is no `zarr.json`, and a `.zarray`, that and its attributes decide
by_zarray : (S L : Contents) (p : Path) (bytes : List ℕ) → L.numbers ≡ S.numbers → HasSameFile S.values L.values p zarr_json → HasSameFile S.values L.values p zarray → HasSameFile S.values L.values p zattrs
    → at_file S.values p zarr_json ≡ None → at_file S.values p zarray ≡ Some bytes → meaning L Default p ≡ meaning S Default p
by_zarray S L p bytes alike json array attributes none is =
    default_is L p ∙ json_absent L p (json ∙ none) (zarray_line (in_bytes L.numbers) L.values p (others_say L p)) ∙ array_there L p bytes (array ∙ is) (others_say L p)
    ∙ (λ i. version_2_line (λ m. Array (array_v2 m)) array_with (document_or_fault (p ++ zarray ∷ []) (of_bytes (array_v2_in (alike i)) bytes)) (attributes_same S L p alike attributes i) (others_say L p))
    ∙ array_decides (p ++ zarray ∷ []) (of_bytes (array_v2_in S.numbers) bytes) (attributes_at S p) (others_say L p) (others_say S p)
    ∙ sym (array_there S p bytes is (others_say S p)) ∙ sym (json_absent S p none (zarray_line (in_bytes S.numbers) S.values p (others_say S p))) ∙ sym (default_is S p)

-- a path means the same where the documents that decide are the same
deciding_same : (S L : Contents) (p : Path) → L.numbers ≡ S.numbers → HasLoaded Deciding S.values L.values p → meaning L Default p ≡ meaning S Default p
deciding_same S L p alike got = by (at_file S.values p zarr_json) (at_file S.values p zarray) refl refl
  where
    -- one of those that decide
    one : (o n : Option (List ℕ)) → at_file S.values p zarr_json ≡ o → at_file S.values p zarray ≡ n → (file : List ℕ) → Contains (deciding_files o n) file → HasSameFile S.values L.values p file
    one o n json array file in' = got file (subst (λ x. Contains (deciding_files (at_file S.values p zarr_json) x) file) (sym array) (subst (λ x. Contains (deciding_files x n) file) (sym json) in'))

    by : (o n : Option (List ℕ)) → at_file S.values p zarr_json ≡ o → at_file S.values p zarray ≡ n → meaning L Default p ≡ meaning S Default p
    by (Some bytes) n json array = by_zarr_json S L p bytes alike (one (Some bytes) n json array zarr_json (Contains-first zarr_json [])) json
    by None (Some bytes) json array =
        let each = one None (Some bytes) json array in
        by_zarray S L p bytes alike (each zarr_json (Contains-first zarr_json (zarray ∷ zattrs ∷ []))) (each zarray (Contains-cons zarr_json (zarray ∷ zattrs ∷ []) zarray (Contains-first zarray (zattrs ∷ []))))
        (each zattrs (Contains-append_right (zarr_json ∷ zarray ∷ []) (zattrs ∷ []) zattrs (Contains-first zattrs []))) json array
    by None None json array = meaning_same S L p alike (one None None json array) Default

-- so it does where what is loaded is
pub loaded_means_same : (ds : Documents) (S L : Contents) (p : Path) → L.numbers ≡ S.numbers → HasLoaded ds S.values L.values p → meaning L Default p ≡ meaning S Default p
loaded_means_same All S L p alike got = deciding_same S L p alike (deciding_of_files S.values L.values p (files_of_all S.values L.values p got))
loaded_means_same Deciding S L p alike got = deciding_same S L p alike got
