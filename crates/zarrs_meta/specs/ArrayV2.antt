-- Zarr specification version 2, "Arrays", "Metadata": the document `.zarray`.
-- <https://zarr-specs.readthedocs.io/en/latest/v2/v2.0.html#arrays>
-- <https://zarr-specs.readthedocs.io/en/latest/v2/v2.0.html#metadata>
use Rattle.std.specs.Prelude.{ℕ, List, [], ◌∷◌, Bool, not, ◌&&◌, Option, Some, None, Result, Ok, codes, refl}
use Rattle.std.specs.List.{list_all}
use Rattle.serde_json.specs.Data.{Data, object, no_members}
use Rattle.serde_json.specs.Find.{as_object}
use Rattle.zarrs_form.specs.Documents.{◌>>=◌, AsksFirst, document_in, format_of, required_member, optional_member}
use Rattle.zarrs_form.specs.Documents.{besides, has_own, is_empty}
use Rattle.zarrs_form.specs.Forms.{number_u64, any, list_of, nullable, number_data, list_data, nullable_data, none_or}
use Rattle.zarrs_form.specs.Forms.{fits_in, unless, put_rows}
use Rattle.zarrs_form.specs.FormsV2.{codec, codec_data, codec_fits_in, data_type, data_type_data, data_type_fits_in}
use Rattle.zarrs_form.specs.FormsV2.{order, order_data, separator, separator_data, has_zero, chunk_lengths}
use Rattle.zarrs_fault.specs.declared.fault.MetadataFault.{MetadataFault}
use Rattle.zarrs_fault.specs.declared.numbers.Numbers.{Numbers}
use Rattle.zarrs_fault.specs.declared.numbers.Numbers.TheVariants.{Whole}
use Rattle.zarrs_meta.specs.declared.array_v2.ArrayMetadataV2.{ArrayMetadataV2}
use Rattle.zarrs_form.specs.declared.chunks.ChunkKeySeparator.TheVariants.{Dot}

-- `zarr_format` and the members of the table
abbrev pub array_v2_names : List (List ℕ)
array_v2_names =
    codes "zarr_format" ∷ codes "shape" ∷ codes "chunks" ∷ codes "dtype" ∷ codes "fill_value" ∷ codes "order"
    ∷ codes "compressor" ∷ codes "filters"
    ∷ codes "dimension_separator" ∷ codes "attributes" ∷ []

-- the array that a version 2 document means where it may hold these numbers, or its first fault
unfoldable pub array_v2_in : Numbers → Data → Result ArrayMetadataV2 MetadataFault
array_v2_in numbers d = do
  ms ← document_in numbers d
  _ ← format_of 2 d
  shape ← required_member (codes "shape") (list_of number_u64) d
  chunks ← required_member (codes "chunks") chunk_lengths d
  dtype ← required_member (codes "dtype") data_type d
  fill_value ← required_member (codes "fill_value") any d
  array_order ← required_member (codes "order") order d
  compressor ← optional_member (codes "compressor") None (nullable codec) d
  filters ← optional_member (codes "filters") None (nullable (list_of codec)) d
  dimension_separator ← optional_member (codes "dimension_separator") Dot separator d
  attributes ← optional_member (codes "attributes") no_members as_object d
  Ok (record {
    shape = shape;
    chunks = chunks;
    dtype = dtype;
    fill_value = fill_value;
    order = array_order;
    compressor = compressor;
    filters = filters;
    dimension_separator = dimension_separator;
    attributes = attributes;
    additional_fields = besides array_v2_names ms;
  })

-- what is no object of such numbers has that fault
pub array_v2_asks_first : AsksFirst array_v2_in
unfolding array_v2_in
array_v2_asks_first numbers d fault h = rw h refl

-- ---- the written form

-- what is written at each name; the absent codecs as null, the separator always
abbrev pub array_v2_rows : ArrayMetadataV2 → List (List ℕ × Option Data)
array_v2_rows m =
    (codes "zarr_format", Some (number_data 2))
    ∷ (codes "shape", Some (list_data number_data m.shape))
    ∷ (codes "chunks", Some (list_data number_data m.chunks))
    ∷ (codes "dtype", Some (data_type_data m.dtype))
    ∷ (codes "fill_value", Some m.fill_value)
    ∷ (codes "order", Some (order_data m.order))
    ∷ (codes "compressor", Some (nullable_data codec_data m.compressor))
    ∷ (codes "filters", Some (nullable_data (list_data codec_data) m.filters))
    ∷ (codes "dimension_separator", Some (separator_data m.dimension_separator))
    ∷ (codes "attributes", unless (is_empty m.attributes) (object m.attributes)) ∷ []

-- an array is written as the members of the table and the additional fields
abbrev pub array_v2_tree : ArrayMetadataV2 → Data
array_v2_tree m = object (put_rows (array_v2_rows m) m.additional_fields)

-- an array could have come from a document that may hold these numbers where no chunk length is 0, its parts could,
-- and no field has an own name
abbrev pub is_plain_array_v2_in : Numbers → ArrayMetadataV2 → Bool
is_plain_array_v2_in numbers m =
    not (has_zero m.chunks) && data_type_fits_in numbers m.dtype && fits_in numbers m.fill_value
    && none_or (codec_fits_in numbers) m.compressor && none_or (list_all (codec_fits_in numbers)) m.filters
    && fits_in numbers (object m.attributes) && fits_in numbers (object m.additional_fields)
    && not (has_own array_v2_names m.additional_fields)

-- an array could have come from a document whose numbers are whole
abbrev pub is_plain_array_v2 : ArrayMetadataV2 → Bool
is_plain_array_v2 m = is_plain_array_v2_in Whole m
