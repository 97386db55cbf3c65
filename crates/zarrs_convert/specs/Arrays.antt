-- Zarr core specification 3.1, "Array metadata": a version 2 array as an array of version 3.
-- <https://zarr-specs.readthedocs.io/en/latest/v3/core/index.html#array-metadata>
use Rattle.std.specs.Prelude.{ℕ, List, Result, Ok, Err, length, codes}
use Rattle.zarrs_form.specs.Forms.{list_data, number_data}
use Rattle.zarrs_form.specs.FormsV2.{separator_data}
use Rattle.zarrs_form.specs.declared.extension.MetadataV3.{MetadataV3}
use Rattle.zarrs_form.specs.declared.chunks.ChunkKeySeparator.{ChunkKeySeparator}
use Rattle.zarrs_meta.specs.MadeArray.{made_array}
use Rattle.zarrs_meta.specs.declared.array_v2.ArrayMetadataV2.{ArrayMetadataV2}
use Rattle.zarrs_meta.specs.declared.array_v3.ArrayMetadataV3.{ArrayMetadataV3}
use Rattle.zarrs_convert.specs.Refusals.{◌>>=◌, Refusal, invalid_endianness}
use Rattle.zarrs_convert.specs.Tables.{with_configuration}
use Rattle.zarrs_convert.specs.DataTypes.{byte_order, data_type_v3}
use Rattle.zarrs_convert.specs.FillValues.{fill_value_v3}
use Rattle.zarrs_convert.specs.Codecs.{codecs_v3}

-- the chunk grid of chunks that all have this shape
abbrev pub regular_grid : List ℕ → MetadataV3
regular_grid chunks = with_configuration (codes "regular") (codes "chunk_shape") (list_data number_data chunks)

-- the encoding of the keys of chunks as in version 2, with this separator
abbrev pub v2_encoding : ChunkKeySeparator → MetadataV3
v2_encoding separator = with_configuration (codes "v2") (codes "separator") (separator_data separator)

-- a text without byte order is refused as such
abbrev pub byte_order_refusal : {A : Type 0} → Result A (List ℕ) → Result A Refusal
byte_order_refusal (Ok x) = Ok x
byte_order_refusal (Err text) = Err (invalid_endianness text)

-- the version 3 array of a version 2 array: byte order, data type, fill value and codecs are asked in this order, and
-- the attributes are kept
unfoldable pub array_v3 : ArrayMetadataV2 → Result ArrayMetadataV3 Refusal
array_v3 m = do
  endianness ← byte_order_refusal (byte_order m.dtype)
  data_type ← data_type_v3 m.dtype
  fill_value ← fill_value_v3 m.fill_value data_type.name
  codecs ← codecs_v3 m.order (length m.shape) endianness m.filters m.compressor
  Ok (record (made_array m.shape (regular_grid m.chunks) data_type fill_value codecs) {
    attributes = m.attributes;
    chunk_key_encoding = v2_encoding m.dimension_separator;
  })
