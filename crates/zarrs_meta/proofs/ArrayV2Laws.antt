-- What is written of a plain version 2 array reads as that array.
use Rattle.std.proofs.Common.{◌≡◌, ℕ, List, true, false, not, Option, Some, None, Ok, IsTrue, codes, refl, ap, ◌∙◌}
use Rattle.std.specs.List.{list_all}
use Rattle.serde_json.specs.Data.{Data, number, string, object, unsigned, Members, no_members, put}
use Rattle.serde_json.specs.Find.{get_member, as_object}
use Rattle.serde_json.specs.Written.{has_float, members_have_float}
use Rattle.serde_json.proofs.Views.{get_member-put}
use Rattle.zarrs_form.specs.Documents.{besides, document_in, has_own, is_empty, optional_found, required_member, optional_member, format_of}
use Rattle.zarrs_form.specs.Forms.{number_u64, any, nullable, list_of, number_data, list_data, nullable_data, none_or, fits, fits_in, unless, put_rows}
use Rattle.zarrs_form.specs.FormsV2.{codec_names, codec, codec_data, codec_fits_in, data_type, data_type_data, data_type_fits_in, order, order_data, separator, separator_data, has_zero, chunk_lengths}
use Rattle.zarrs_meta.specs.ArrayV2.{array_v2_in, array_v2_names, array_v2_rows, array_v2_tree, is_plain_array_v2, is_plain_array_v2_in}
use Rattle.zarrs_fault.specs.declared.numbers.Numbers.{Numbers}
use Rattle.zarrs_fault.specs.declared.numbers.Numbers.TheVariants.{Whole, Any}
use Rattle.zarrs_meta.specs.declared.array_v2.ArrayMetadataV2.{ArrayMetadataV2}
use Rattle.zarrs_form.specs.declared.codec.MetadataV2.{MetadataV2}
use Rattle.zarrs_form.specs.declared.data_type.DataTypeMetadataV2.{DataTypeMetadataV2}
use Rattle.zarrs_form.specs.declared.data_type.DataTypeMetadataV2.TheVariants.{Simple, Structured}
use Rattle.zarrs_form.specs.declared.chunks.ArrayMetadataV2Order.{ArrayMetadataV2Order}
use Rattle.zarrs_form.specs.declared.chunks.ArrayMetadataV2Order.TheVariants.{C, F}
use Rattle.zarrs_form.specs.declared.chunks.ChunkKeySeparator.{ChunkKeySeparator}
use Rattle.zarrs_form.specs.declared.chunks.ChunkKeySeparator.TheVariants.{Dot, Slash}
use Rattle.zarrs_form.proofs.MemberLaws.{besides-put, besides-others, get-others}
use Rattle.zarrs_form.proofs.RowLaws.{or_rest, found, get-put_rows, besides-put_rows, no_float-put_rows, list_again, list_again_where, list_no_float, numbers_no_float, both, ◌◂◌, number_again}
use Rattle.zarrs_form.proofs.AttributeLaws.{not_true, attributes_again, attributes_no_float}
use Rattle.zarrs_form.proofs.CodecLaws.{codec_no_float}

-- ---- codecs

-- the members with no name `id` are the configuration
codec_rest : (m : MetadataV2) → has_own codec_names m.configuration ≡ false → besides codec_names (put (codes "id") (string m.id) m.configuration) ≡ m.configuration
codec_rest m no_own = besides-put codec_names (codes "id") (string m.id) m.configuration refl ∙ besides-others codec_names m.configuration no_own

-- a codec that was written reads as that codec
pub codec_again : (numbers : Numbers) (m : MetadataV2) → codec_fits_in numbers m ≡ true → codec (codec_data m) ≡ Some m
codec_again numbers m plain =
    let parts = both (fits_in numbers (object m.configuration)) (not (has_own codec_names m.configuration)) plain in
    let id : get_member (codes "id") (put (codes "id") (string m.id) m.configuration) ≡ Some (string m.id) = get_member-put (codes "id") (string m.id) m.configuration in
    rw (id, codec_rest m (not_true (has_own codec_names m.configuration) parts.1)) refl

-- a codec or null reads again
compressor_again : (numbers : Numbers) (o : Option MetadataV2) → none_or (codec_fits_in numbers) o ≡ true → nullable codec (nullable_data codec_data o) ≡ Some o
compressor_again numbers None e = refl
compressor_again numbers (Some m) e = rw (codec_again numbers m e) refl

-- a codec or null is written with numbers that fit
compressor_no_float : (o : Option MetadataV2) → none_or (codec_fits_in Whole) o ≡ true → has_float (nullable_data codec_data o) ≡ false
compressor_no_float None e = refl
compressor_no_float (Some m) e = codec_no_float m e

-- a list of codecs or null reads again
filters_again : (numbers : Numbers) (o : Option (List MetadataV2)) → none_or (list_all (codec_fits_in numbers)) o ≡ true → nullable (list_of codec) (nullable_data (list_data codec_data) o) ≡ Some o
filters_again numbers None e = refl
filters_again numbers (Some ms) e = rw (list_again_where codec codec_data (codec_fits_in numbers) (codec_again numbers) ms e) refl

-- a list of codecs or null is written with numbers that fit
filters_no_float : (o : Option (List MetadataV2)) → none_or (list_all (codec_fits_in Whole)) o ≡ true → has_float (nullable_data (list_data codec_data) o) ≡ false
filters_no_float None e = refl
filters_no_float (Some ms) e = list_no_float codec_data (codec_fits_in Whole) codec_no_float ms e

-- ---- the other forms

-- a data type that was written reads as that data type
pub data_type_again : (t : DataTypeMetadataV2) → data_type (data_type_data t) ≡ Some t
data_type_again (Simple s) = refl
data_type_again (Structured ds) = rw (list_again any (λ d. d) (λ d. refl) ds) refl

-- a data type whose numbers fit is written with numbers that fit
pub data_type_no_float : (t : DataTypeMetadataV2) → data_type_fits_in Whole t ≡ true → has_float (data_type_data t) ≡ false
data_type_no_float (Simple s) e = refl
data_type_no_float (Structured ds) e = list_no_float (λ d. d) fits (λ d h. not_true (has_float d) h) ds e

-- an order that was written reads as that order
pub order_again : (o : ArrayMetadataV2Order) → order (order_data o) ≡ Some o
order_again C = refl
order_again F = refl

-- an order is written without a number
order_no_float : (o : ArrayMetadataV2Order) → has_float (order_data o) ≡ false
order_no_float C = refl
order_no_float F = refl

-- a separator that was written reads as that separator
pub separator_again : (s : ChunkKeySeparator) → separator (separator_data s) ≡ Some s
separator_again Dot = refl
separator_again Slash = refl

-- a separator is written without a number
separator_no_float : (s : ChunkKeySeparator) → has_float (separator_data s) ≡ false
separator_no_float Dot = refl
separator_no_float Slash = refl

-- chunk lengths, none of them 0, read again
chunks_again : (ns : List ℕ) → has_zero ns ≡ false → chunk_lengths (list_data number_data ns) ≡ Some ns
chunks_again ns none = rw (list_again number_u64 number_data number_again ns, none) refl

-- ---- the whole

-- what a plain array has: no chunk length 0, codecs without a member `id`, only these numbers, no field with an own name
abbrev pub PlainArrayV2In : Numbers → ArrayMetadataV2 → Type 0
PlainArrayV2In numbers m =
    (has_zero m.chunks ≡ false) × (data_type_fits_in numbers m.dtype ≡ true) × (fits_in numbers m.fill_value ≡ true) × (none_or (codec_fits_in numbers) m.compressor ≡ true)
    × (none_or (list_all (codec_fits_in numbers)) m.filters ≡ true) × (fits_in numbers (object m.attributes) ≡ true) × (fits_in numbers (object m.additional_fields) ≡ true)
    × (has_own array_v2_names m.additional_fields ≡ false)

-- the test takes a plain array apart
pub plain_array_v2_in : (numbers : Numbers) (m : ArrayMetadataV2) → IsTrue (is_plain_array_v2_in numbers m) → PlainArrayV2In numbers m
plain_array_v2_in numbers m plain =
    let g = both _ (not (has_own array_v2_names m.additional_fields)) plain in
    let f = both _ (fits_in numbers (object m.additional_fields)) g.0 in
    let e = both _ (fits_in numbers (object m.attributes)) f.0 in
    let d = both _ (none_or (list_all (codec_fits_in numbers)) m.filters) e.0 in
    let c = both _ (none_or (codec_fits_in numbers) m.compressor) d.0 in
    let b = both _ (fits_in numbers m.fill_value) c.0 in
    let a = both (not (has_zero m.chunks)) (data_type_fits_in numbers m.dtype) b.0 in (
      not_true (has_zero m.chunks) a.0,
      a.1,
      b.1,
      c.1,
      d.1,
      e.1,
      f.1,
      not_true (has_own array_v2_names m.additional_fields) g.1,
    )

-- what an array has that is plain in whole numbers
abbrev pub PlainArrayV2 : ArrayMetadataV2 → Type 0
PlainArrayV2 m =
    (has_zero m.chunks ≡ false) × (data_type_fits_in Whole m.dtype ≡ true) × (fits m.fill_value ≡ true) × (none_or (codec_fits_in Whole) m.compressor ≡ true)
    × (none_or (list_all (codec_fits_in Whole)) m.filters ≡ true) × (fits (object m.attributes) ≡ true) × (members_have_float m.additional_fields ≡ false)
    × (has_own array_v2_names m.additional_fields ≡ false)

-- the test takes such an array apart
pub plain_array_v2 : (m : ArrayMetadataV2) → IsTrue (is_plain_array_v2 m) → PlainArrayV2 m
plain_array_v2 m plain =
    let p = plain_array_v2_in Whole m plain in
    (p.0, p.1, p.2, p.3, p.4, p.5, not_true (members_have_float m.additional_fields) p.6, p.7)

-- a plain array is written with numbers that fit
pub array_v2_no_float : (m : ArrayMetadataV2) → IsTrue (is_plain_array_v2 m) → has_float (array_v2_tree m) ≡ false
array_v2_no_float m plain =
    let parts = plain_array_v2 m plain in
    no_float-put_rows (array_v2_rows m) m.additional_fields
    (refl
    ◂ numbers_no_float m.shape
    ◂ numbers_no_float m.chunks
    ◂ data_type_no_float m.dtype parts.1
    ◂ not_true (has_float m.fill_value) parts.2
    ◂ order_no_float m.order
    ◂ compressor_no_float m.compressor parts.3
    ◂ filters_no_float m.filters parts.4
    ◂ separator_no_float m.dimension_separator
    ◂ attributes_no_float m.attributes parts.5
    ◂ tt)
    parts.6

-- what is written is a document that may hold these numbers
pub is_document : (numbers : Numbers) (m : ArrayMetadataV2) → IsTrue (is_plain_array_v2_in numbers m) → document_in numbers (array_v2_tree m) ≡ Ok (put_rows (array_v2_rows m) m.additional_fields)
is_document Whole m plain = rw (array_v2_no_float m plain) refl
is_document Any m plain = refl

module _ (numbers : Numbers) (m : ArrayMetadataV2) (plain : IsTrue (is_plain_array_v2_in numbers m)) where
  -- the parts of being plain
  parts : PlainArrayV2In numbers m
  parts = plain_array_v2_in numbers m plain

  -- the rows of the table
  abbrev rows : List (List ℕ × Option Data)
  rows = array_v2_rows m

  -- the members of the written document
  abbrev whole : Members
  whole = put_rows rows m.additional_fields

  -- what stands at a name: what its row says, else what the additional fields have
  at : (k : List ℕ) → get_member k whole ≡ found k rows (get_member k m.additional_fields)
  at k = get-put_rows k rows m.additional_fields

  -- each member is found and reads again
  pub has_format : get_member (codes "zarr_format") whole ≡ Some (number (unsigned 2))
  has_format = at (codes "zarr_format")

  -- the shape is found
  pub has_shape : get_member (codes "shape") whole ≡ Some (list_data number_data m.shape)
  has_shape = at (codes "shape")

  -- the shape reads again
  shape : required_member (codes "shape") (list_of number_u64) (object whole) ≡ Ok m.shape
  shape = rw (has_shape, list_again number_u64 number_data number_again m.shape) refl

  -- the chunk shape reads again
  chunks : required_member (codes "chunks") chunk_lengths (object whole) ≡ Ok m.chunks
  chunks = let here : get_member (codes "chunks") whole ≡ Some (list_data number_data m.chunks) = at (codes "chunks") in rw (here, chunks_again m.chunks parts.0) refl

  -- the data type reads again
  dtype : required_member (codes "dtype") data_type (object whole) ≡ Ok m.dtype
  dtype = let here : get_member (codes "dtype") whole ≡ Some (data_type_data m.dtype) = at (codes "dtype") in rw (here, data_type_again m.dtype) refl

  -- the fill value reads again
  fill_value : required_member (codes "fill_value") any (object whole) ≡ Ok m.fill_value
  fill_value = let here : get_member (codes "fill_value") whole ≡ Some m.fill_value = at (codes "fill_value") in rw here refl

  -- the order reads again
  array_order : required_member (codes "order") order (object whole) ≡ Ok m.order
  array_order = let here : get_member (codes "order") whole ≡ Some (order_data m.order) = at (codes "order") in rw (here, order_again m.order) refl

  -- the compressor reads again
  compressor : optional_member (codes "compressor") None (nullable codec) (object whole) ≡ Ok m.compressor
  compressor =
      let here : get_member (codes "compressor") whole ≡ Some (nullable_data codec_data m.compressor) = at (codes "compressor") in
      rw (here, compressor_again numbers m.compressor parts.3) refl

  -- the filters read again
  filters : optional_member (codes "filters") None (nullable (list_of codec)) (object whole) ≡ Ok m.filters
  filters =
      let here : get_member (codes "filters") whole ≡ Some (nullable_data (list_data codec_data) m.filters) = at (codes "filters") in
      rw (here, filters_again numbers m.filters parts.4) refl

  -- the dimension separator reads again
  dimension_separator : optional_member (codes "dimension_separator") Dot separator (object whole) ≡ Ok m.dimension_separator
  dimension_separator =
      let here : get_member (codes "dimension_separator") whole ≡ Some (separator_data m.dimension_separator) = at (codes "dimension_separator") in
      rw (here, separator_again m.dimension_separator) refl

  -- the attributes read again
  attributes : optional_member (codes "attributes") no_members as_object (object whole) ≡ Ok m.attributes
  attributes = ap (optional_found (codes "attributes") no_members as_object)
      (at (codes "attributes") ∙ ap (or_rest (unless (is_empty m.attributes) (object m.attributes))) (get-others array_v2_names (codes "attributes") m.additional_fields refl parts.7))
      ∙ attributes_again m.attributes

  -- the members with no own name are the additional fields
  others : besides array_v2_names whole ≡ m.additional_fields
  others = besides-put_rows array_v2_names rows m.additional_fields refl ∙ besides-others array_v2_names m.additional_fields parts.7

  -- an array that is plain in these numbers and was written reads as that array in them
  pub array_v2_again_in : array_v2_in numbers (array_v2_tree m) ≡ Ok m
  unfolding array_v2_in format_of
  array_v2_again_in = rw (is_document numbers m plain, has_format, shape, chunks, dtype, fill_value, array_order, compressor, filters, dimension_separator, attributes, others) refl
