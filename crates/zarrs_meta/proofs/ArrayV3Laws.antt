-- What is written of a plain version 3 array reads as that array.
use Rattle.std.proofs.Common.{◌≡◌, ℕ, List, [], ◌∷◌, Bool, true, false, not, Option, Some, None, Ok, IsTrue, codes, option_map, refl, ap, ◌∙◌}
use Rattle.std.specs.List.{list_all}
use Rattle.serde_json.specs.Data.{Data, number, string, object, unsigned, Members, no_members}
use Rattle.serde_json.specs.Find.{get_member, as_object, as_str}
use Rattle.serde_json.specs.Written.{has_float, members_have_float}
use Rattle.zarrs_form.specs.Documents.{is_own, besides, document_in, has_own, is_empty, optional_found, required_member, optional_member, format_of, node_type_of}
use Rattle.zarrs_form.specs.Forms.{number_u64, any, nullable, list_of, extension, number_data, list_data, nullable_data, extension_data, extension_fits_in, fits, unless, is_nil, put_rows}
use Rattle.zarrs_meta.specs.ArrayV3.{array_v3_in, array_v3_names, array_v3_rows, array_v3_tree, is_plain_array_v3, is_plain_array_v3_in}
use Rattle.zarrs_fault.specs.declared.numbers.Numbers.{Numbers}
use Rattle.zarrs_fault.specs.declared.numbers.Numbers.TheVariants.{Whole, Any}
use Rattle.zarrs_meta.specs.declared.array_v3.ArrayMetadataV3.{ArrayMetadataV3}
use Rattle.zarrs_form.specs.declared.extension.MetadataV3.{MetadataV3}
use Rattle.zarrs_form.proofs.MemberLaws.{besides-others, get-others}
use Rattle.zarrs_form.proofs.RowLaws.{or_rest, found, get-put_rows, besides-put_rows, no_float-put_rows, list_again, list_no_float, has_no_float, both, ◌◂◌, number_again, numbers_no_float, all_true}
use Rattle.zarrs_form.proofs.AttributeLaws.{not_true, attributes_again, attributes_no_float}

-- ---- extensions

-- an extension that was written reads again, field by field
again_by : (name : List ℕ) (configuration : Option Members) (must_understand : Bool)
    → extension (extension_data (record { name = name; configuration = configuration; must_understand = must_understand })) ≡ Some (record { name = name; configuration = configuration; must_understand = must_understand })
again_by name None true = refl
again_by name None false = refl
again_by name (Some ms) true = refl
again_by name (Some ms) false = refl

-- an extension that was written reads as that extension
pub extension_again : (m : MetadataV3) → extension (extension_data m) ≡ Some m
extension_again m = again_by m.name m.configuration m.must_understand

-- an extension whose numbers fit is written with numbers that fit, field by field
no_float_by : (name : List ℕ) (configuration : Option Members) (must_understand : Bool) → extension_fits_in Whole (record { name = name; configuration = configuration; must_understand = must_understand }) ≡ true
    → has_float (extension_data (record { name = name; configuration = configuration; must_understand = must_understand })) ≡ false
no_float_by name None true e = refl
no_float_by name None false e = refl
no_float_by name (Some ms) true e = rw (not_true (members_have_float ms) e) refl
no_float_by name (Some ms) false e = rw (not_true (members_have_float ms) e) refl

-- an extension whose numbers fit is written with numbers that fit
pub extension_no_float : (m : MetadataV3) → extension_fits_in Whole m ≡ true → has_float (extension_data m) ≡ false
extension_no_float m = no_float_by m.name m.configuration m.must_understand

-- the name of a dimension, or null, reads again
name_again : (o : Option (List ℕ)) → nullable as_str (nullable_data string o) ≡ Some o
name_again None = refl
name_again (Some s) = refl

-- ---- members that may be absent

-- storage transformers that were written read again, and those that were not written read as none
transformers_again : (xs : List MetadataV3) → optional_found (codes "storage_transformers") [] (list_of extension) (or_rest (unless (is_nil xs) (list_data extension_data xs)) None) ≡ Ok xs
transformers_again [] = refl
transformers_again (x ∷ xs) = rw (extension_again x, list_again extension extension_data extension_again xs) refl

-- dimension names that were written read again, and those that were not written read as absent
names_again : (o : Option (List (Option (List ℕ)))) → optional_found (codes "dimension_names") None (nullable (list_of (nullable as_str))) (or_rest (option_map (list_data (nullable_data string)) o) None) ≡ Ok o
names_again None = refl
names_again (Some names) = rw (list_again (nullable as_str) (nullable_data string) name_again names) refl

-- the name of a dimension has no number
names_no_float : (o : Option (List ℕ)) → true ≡ true → has_float (nullable_data string o) ≡ false
names_no_float None e = refl
names_no_float (Some s) e = refl

-- storage transformers whose numbers fit are written with numbers that fit
transformers_no_float : (xs : List MetadataV3) → list_all (extension_fits_in Whole) xs ≡ true → has_no_float (unless (is_nil xs) (list_data extension_data xs))
transformers_no_float [] e = tt
transformers_no_float (x ∷ xs) e = list_no_float extension_data (extension_fits_in Whole) extension_no_float (x ∷ xs) e

-- dimension names have no number
all_names_no_float : (o : Option (List (Option (List ℕ)))) → has_no_float (option_map (list_data (nullable_data string)) o)
all_names_no_float None = tt
all_names_no_float (Some names) = list_no_float (nullable_data string) (λ _. true) names_no_float names (all_true names)

-- ---- the whole

module _ (m : ArrayMetadataV3) (no_own : has_own array_v3_names m.additional_fields ≡ false) where
  -- the rows of the table
  abbrev rows : List (List ℕ × Option Data)
  rows = array_v3_rows m

  -- the members of the written document
  abbrev whole : Members
  whole = put_rows rows m.additional_fields

  -- what stands at a name: what its row says, else what the additional fields have
  at : (k : List ℕ) → get_member k whole ≡ found k rows (get_member k m.additional_fields)
  at k = get-put_rows k rows m.additional_fields

  -- no additional field has an own name
  none_at : (k : List ℕ) → is_own array_v3_names k ≡ true → get_member k m.additional_fields ≡ None
  none_at k own = get-others array_v3_names k m.additional_fields own no_own

  -- each member is found and reads again
  pub has_format : get_member (codes "zarr_format") whole ≡ Some (number (unsigned 3))
  has_format = at (codes "zarr_format")

  -- the kind of node is found
  pub has_kind : get_member (codes "node_type") whole ≡ Some (string (codes "array"))
  has_kind = at (codes "node_type")

  -- the shape reads again
  pub shape : required_member (codes "shape") (list_of number_u64) (object whole) ≡ Ok m.shape
  shape = let here : get_member (codes "shape") whole ≡ Some (list_data number_data m.shape) = at (codes "shape") in rw (here, list_again number_u64 number_data number_again m.shape) refl

  -- the data type reads again
  pub data_type : required_member (codes "data_type") extension (object whole) ≡ Ok m.data_type
  data_type = let here : get_member (codes "data_type") whole ≡ Some (extension_data m.data_type) = at (codes "data_type") in rw (here, extension_again m.data_type) refl

  -- the chunk grid reads again
  chunk_grid : required_member (codes "chunk_grid") extension (object whole) ≡ Ok m.chunk_grid
  chunk_grid = let here : get_member (codes "chunk_grid") whole ≡ Some (extension_data m.chunk_grid) = at (codes "chunk_grid") in rw (here, extension_again m.chunk_grid) refl

  -- the chunk key encoding reads again
  chunk_key_encoding : required_member (codes "chunk_key_encoding") extension (object whole) ≡ Ok m.chunk_key_encoding
  chunk_key_encoding =
      let here : get_member (codes "chunk_key_encoding") whole ≡ Some (extension_data m.chunk_key_encoding) = at (codes "chunk_key_encoding") in
      rw (here, extension_again m.chunk_key_encoding) refl

  -- the fill value reads again
  pub fill_value : required_member (codes "fill_value") any (object whole) ≡ Ok m.fill_value
  fill_value = let here : get_member (codes "fill_value") whole ≡ Some m.fill_value = at (codes "fill_value") in rw here refl

  -- the codecs read again
  codecs : required_member (codes "codecs") (list_of extension) (object whole) ≡ Ok m.codecs
  codecs =
      let here : get_member (codes "codecs") whole ≡ Some (list_data extension_data m.codecs) = at (codes "codecs") in
      rw (here, list_again extension extension_data extension_again m.codecs) refl

  -- the attributes read again
  pub attributes : optional_member (codes "attributes") no_members as_object (object whole) ≡ Ok m.attributes
  attributes = ap (optional_found (codes "attributes") no_members as_object) (at (codes "attributes") ∙ ap (or_rest (unless (is_empty m.attributes) (object m.attributes))) (none_at (codes "attributes") refl))
      ∙ attributes_again m.attributes

  -- the storage transformers read again
  transformers : optional_member (codes "storage_transformers") [] (list_of extension) (object whole) ≡ Ok m.storage_transformers
  transformers = ap (optional_found (codes "storage_transformers") [] (list_of extension))
      (at (codes "storage_transformers") ∙ ap (or_rest (unless (is_nil m.storage_transformers) (list_data extension_data m.storage_transformers))) (none_at (codes "storage_transformers") refl))
      ∙ transformers_again m.storage_transformers

  -- the dimension names read again
  pub names : optional_member (codes "dimension_names") None (nullable (list_of (nullable as_str))) (object whole) ≡ Ok m.dimension_names
  names = ap (optional_found (codes "dimension_names") None (nullable (list_of (nullable as_str))))
      (at (codes "dimension_names") ∙ ap (or_rest (option_map (list_data (nullable_data string)) m.dimension_names)) (none_at (codes "dimension_names") refl))
      ∙ names_again m.dimension_names

  -- the members with no own name are the additional fields
  others : besides array_v3_names whole ≡ m.additional_fields
  others = besides-put_rows array_v3_names rows m.additional_fields refl ∙ besides-others array_v3_names m.additional_fields no_own

  -- an array whose written form is a document reads again
  pub array_v3_again_where : (numbers : Numbers) → document_in numbers (array_v3_tree m) ≡ Ok whole → array_v3_in numbers (array_v3_tree m) ≡ Ok m
  unfolding array_v3_in format_of node_type_of
  array_v3_again_where numbers is_document = rw (is_document, has_format, has_kind, shape, data_type, chunk_grid, chunk_key_encoding, fill_value, codecs, attributes, transformers, names, others) refl

-- what is plain of a plain array, part by part
pub plain_parts : (m : ArrayMetadataV3) → IsTrue (is_plain_array_v3 m) → (extension_fits_in Whole m.data_type ≡ true) × (extension_fits_in Whole m.chunk_grid ≡ true) × (extension_fits_in Whole m.chunk_key_encoding ≡ true)
    × (fits m.fill_value ≡ true) × (list_all (extension_fits_in Whole) m.codecs ≡ true) × (fits (object m.attributes) ≡ true) × (list_all (extension_fits_in Whole) m.storage_transformers ≡ true)
    × (fits (object m.additional_fields) ≡ true)
plain_parts m plain =
    let h = both _ (not (has_own array_v3_names m.additional_fields)) plain in
    let g = both _ (fits (object m.additional_fields)) h.0 in
    let f = both _ (list_all (extension_fits_in Whole) m.storage_transformers) g.0 in
    let e = both _ (fits (object m.attributes)) f.0 in
    let d = both _ (list_all (extension_fits_in Whole) m.codecs) e.0 in
    let c = both _ (fits m.fill_value) d.0 in
    let b = both _ (extension_fits_in Whole m.chunk_key_encoding) c.0 in
    let a = both (extension_fits_in Whole m.data_type) (extension_fits_in Whole m.chunk_grid) b.0 in
    (a.0, a.1, b.1, c.1, d.1, e.1, f.1, g.1)

-- a plain array is written with numbers that fit
pub array_v3_no_float : (m : ArrayMetadataV3) → IsTrue (is_plain_array_v3 m) → has_float (array_v3_tree m) ≡ false
array_v3_no_float m plain =
    let p = plain_parts m plain in
    no_float-put_rows (array_v3_rows m) m.additional_fields
    (refl
    ◂ refl
    ◂ numbers_no_float m.shape
    ◂ extension_no_float m.data_type p.0
    ◂ extension_no_float m.chunk_grid p.1
    ◂ extension_no_float m.chunk_key_encoding p.2
    ◂ not_true (has_float m.fill_value) p.3
    ◂ list_no_float extension_data (extension_fits_in Whole) extension_no_float m.codecs p.4
    ◂ attributes_no_float m.attributes p.5
    ◂ transformers_no_float m.storage_transformers p.6
    ◂ all_names_no_float m.dimension_names
    ◂ tt)
    (not_true (members_have_float m.additional_fields) p.7)

-- what is written is a document that may hold these numbers
pub is_document : (numbers : Numbers) (m : ArrayMetadataV3) → IsTrue (is_plain_array_v3_in numbers m) → document_in numbers (array_v3_tree m) ≡ Ok (put_rows (array_v3_rows m) m.additional_fields)
is_document Whole m plain = rw (array_v3_no_float m plain) refl
is_document Any m plain = refl

-- no field of a plain array has an own name
pub plain_own : (numbers : Numbers) (m : ArrayMetadataV3) → IsTrue (is_plain_array_v3_in numbers m) → has_own array_v3_names m.additional_fields ≡ false
plain_own numbers m plain = not_true (has_own array_v3_names m.additional_fields) (both _ (not (has_own array_v3_names m.additional_fields)) plain).1

-- an array that is plain in these numbers and was written reads as that array in them
pub array_v3_again_in : (numbers : Numbers) (m : ArrayMetadataV3) → IsTrue (is_plain_array_v3_in numbers m) → array_v3_in numbers (array_v3_tree m) ≡ Ok m
array_v3_again_in numbers m plain = array_v3_again_where m (plain_own numbers m plain) numbers (is_document numbers m plain)

-- a plain array is written with its format
pub format_again : (numbers : Numbers) (m : ArrayMetadataV3) → IsTrue (is_plain_array_v3_in numbers m) → get_member (codes "zarr_format") (put_rows (array_v3_rows m) m.additional_fields) ≡ Some (number (unsigned 3))
format_again numbers m plain = has_format m (plain_own numbers m plain)

-- a plain array is written with its node type
pub kind_again : (numbers : Numbers) (m : ArrayMetadataV3) → IsTrue (is_plain_array_v3_in numbers m) → get_member (codes "node_type") (put_rows (array_v3_rows m) m.additional_fields) ≡ Some (string (codes "array"))
kind_again numbers m plain = has_kind m (plain_own numbers m plain)
