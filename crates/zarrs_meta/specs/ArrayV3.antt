-- Zarr core specification 3.1, "Array metadata": the document of a version 3 array.
-- <https://zarr-specs.readthedocs.io/en/latest/v3/core/index.html#array-metadata>
use Rattle.std.specs.Prelude.{ℕ, List, [], ◌∷◌, Bool, Option, Some, None, Result, Ok, codes, option_map, not, ◌&&◌}
use Rattle.std.specs.Prelude.{refl}
use Rattle.std.specs.List.{list_all}
use Rattle.serde_json.specs.Data.{Data, string, object, no_members}
use Rattle.serde_json.specs.Find.{as_object, as_str}
use Rattle.zarrs_form.specs.Documents.{◌>>=◌, AsksFirst, document_in, format_of, node_type_of, required_member}
use Rattle.zarrs_form.specs.Documents.{optional_member, besides, has_own, is_empty}
use Rattle.zarrs_form.specs.Forms.{number_u64, any, nullable, list_of, extension, number_data, list_data, nullable_data}
use Rattle.zarrs_form.specs.Forms.{extension_data, extension_fits_in, fits_in, unless, is_nil, put_rows}
use Rattle.zarrs_fault.specs.declared.fault.MetadataFault.{MetadataFault}
use Rattle.zarrs_fault.specs.declared.numbers.Numbers.{Numbers}
use Rattle.zarrs_fault.specs.declared.numbers.Numbers.TheVariants.{Whole}
use Rattle.zarrs_meta.specs.declared.array_v3.ArrayMetadataV3.{ArrayMetadataV3}

-- `zarr_format`, `node_type` and the members of the table
abbrev pub array_v3_names : List (List ℕ)
array_v3_names =
    codes "zarr_format" ∷ codes "node_type" ∷ codes "shape" ∷ codes "data_type" ∷ codes "chunk_grid"
    ∷ codes "chunk_key_encoding" ∷ codes "fill_value" ∷ codes "codecs"
    ∷ codes "attributes" ∷ codes "storage_transformers" ∷ codes "dimension_names" ∷ []

-- the array that a version 3 document means where it may hold these numbers, or its first fault
unfoldable pub array_v3_in : Numbers → Data → Result ArrayMetadataV3 MetadataFault
array_v3_in numbers d = do
  ms ← document_in numbers d
  _ ← format_of 3 d
  _ ← node_type_of (codes "array") d
  shape ← required_member (codes "shape") (list_of number_u64) d
  data_type ← required_member (codes "data_type") extension d
  chunk_grid ← required_member (codes "chunk_grid") extension d
  chunk_key_encoding ← required_member (codes "chunk_key_encoding") extension d
  fill_value ← required_member (codes "fill_value") any d
  codecs ← required_member (codes "codecs") (list_of extension) d
  attributes ← optional_member (codes "attributes") no_members as_object d
  storage_transformers ← optional_member (codes "storage_transformers") [] (list_of extension) d
  dimension_names ← optional_member (codes "dimension_names") None (nullable (list_of (nullable as_str))) d
  Ok (record {
    shape = shape;
    data_type = data_type;
    chunk_grid = chunk_grid;
    chunk_key_encoding = chunk_key_encoding;
    fill_value = fill_value;
    codecs = codecs;
    attributes = attributes;
    storage_transformers = storage_transformers;
    dimension_names = dimension_names;
    additional_fields = besides array_v3_names ms;
  })

-- what is no object of such numbers has that fault
pub array_v3_asks_first : AsksFirst array_v3_in
unfolding array_v3_in
array_v3_asks_first numbers d fault h = rw h refl

-- ---- the written form

-- what is written at each name; empty attributes, empty storage transformers and absent dimension names are not
abbrev pub array_v3_rows : ArrayMetadataV3 → List (List ℕ × Option Data)
array_v3_rows m =
    (codes "zarr_format", Some (number_data 3)) ∷ (codes "node_type", Some (string (codes "array")))
    ∷ (codes "shape", Some (list_data number_data m.shape))
    ∷ (codes "data_type", Some (extension_data m.data_type))
    ∷ (codes "chunk_grid", Some (extension_data m.chunk_grid))
    ∷ (codes "chunk_key_encoding", Some (extension_data m.chunk_key_encoding))
    ∷ (codes "fill_value", Some m.fill_value)
    ∷ (codes "codecs", Some (list_data extension_data m.codecs))
    ∷ (codes "attributes", unless (is_empty m.attributes) (object m.attributes))
    ∷ (
      codes "storage_transformers",
      unless (is_nil m.storage_transformers) (list_data extension_data m.storage_transformers),
    )
    ∷ (codes "dimension_names", option_map (list_data (nullable_data string)) m.dimension_names) ∷ []

-- an array is written as the members of the table and the additional fields
abbrev pub array_v3_tree : ArrayMetadataV3 → Data
array_v3_tree m = object (put_rows (array_v3_rows m) m.additional_fields)

-- an array could have come from a document that may hold these numbers: its own are among them, and no field has an
-- own name
abbrev pub is_plain_array_v3_in : Numbers → ArrayMetadataV3 → Bool
is_plain_array_v3_in numbers m =
    extension_fits_in numbers m.data_type && extension_fits_in numbers m.chunk_grid
    && extension_fits_in numbers m.chunk_key_encoding && fits_in numbers m.fill_value
    && list_all (extension_fits_in numbers) m.codecs && fits_in numbers (object m.attributes)
    && list_all (extension_fits_in numbers) m.storage_transformers && fits_in numbers (object m.additional_fields)
    && not (has_own array_v3_names m.additional_fields)

-- an array could have come from a document whose numbers are whole
abbrev pub is_plain_array_v3 : ArrayMetadataV3 → Bool
is_plain_array_v3 m = is_plain_array_v3_in Whole m
