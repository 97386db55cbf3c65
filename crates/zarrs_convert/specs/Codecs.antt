-- Zarr specification version 2, "Metadata" ("order", "filters", "compressor"), and Zarr core specification 3.1,
-- "Codecs": the codecs in version 3.
-- <https://zarr-specs.readthedocs.io/en/latest/v2/v2.0.html#metadata>
-- <https://zarr-specs.readthedocs.io/en/latest/v3/core/index.html#codecs>
use Rattle.std.specs.Prelude.{ℕ, List, [], ◌∷◌, ◌++◌, Option, Some, None, Result, Ok, Err, codes, if◌then◌else◌}
use Rattle.std.specs.Prelude.{reverse, unwrap_or}
use Rattle.std.specs.List.{range_with_len}
use Rattle.serde_json.specs.Data.{string}
use Rattle.zarrs_form.specs.Forms.{list_data, number_data}
use Rattle.zarrs_form.specs.declared.codec.MetadataV2.{MetadataV2}
use Rattle.zarrs_form.specs.declared.extension.MetadataV3.{MetadataV3}
use Rattle.zarrs_form.specs.declared.chunks.ArrayMetadataV2Order.{ArrayMetadataV2Order}
use Rattle.zarrs_form.specs.declared.chunks.ArrayMetadataV2Order.TheVariants.{C, F}
use Rattle.zarrs_form.specs.declared.data_type.Endianness.{Endianness}
use Rattle.zarrs_form.specs.declared.data_type.Endianness.TheVariants.{Little, Big}
use Rattle.zarrs_convert.specs.Refusals.{◌>>=◌, Refusal, unsupported_codec, multiple_array_to_bytes_codecs}
use Rattle.zarrs_convert.specs.Tables.{is_among, with_no_configuration, with_configuration}

-- order F is a transposition of the dimensions, the last one first; order C is no codec
abbrev pub transposition : ArrayMetadataV2Order → ℕ → List MetadataV3
transposition C dimensionality = []
transposition F dimensionality =
    with_configuration (codes "transpose") (codes "order")
    (list_data number_data (reverse (range_with_len 0 dimensionality)))
    ∷ []

-- the filters that have a form of version 3, each of the same name
abbrev pub vlen_names : List (List ℕ)
vlen_names = codes "vlen-array" ∷ codes "vlen-bytes" ∷ codes "vlen-utf8" ∷ []

-- a codec of version 2 that has no form of version 3
abbrev pub no_codec : {A : Type 0} → MetadataV2 → Result A Refusal
no_codec codec = Err (unsupported_codec codec.id codec.configuration)

-- a filter that has a form of version 3 keeps its name, with an empty configuration; any other is refused
abbrev pub filter_v3 : MetadataV2 → Result MetadataV3 Refusal
filter_v3 filter = if is_among vlen_names filter.id then Ok (with_no_configuration filter.id) else no_codec filter

-- each filter in turn
abbrev pub filters_v3 : List MetadataV2 → Result (List MetadataV3) Refusal
filters_v3 [] = Ok []
filters_v3 (filter ∷ filters) = do
  codec ← filter_v3 filter
  codecs ← filters_v3 filters
  Ok (codec ∷ codecs)

-- how a byte order is written; none is written as little
abbrev pub endian : Option Endianness → List ℕ
endian (Some Little) = codes "little"
endian (Some Big) = codes "big"
endian None = codes "little"

-- the codec `bytes` with a byte order
abbrev pub bytes_codec : Option Endianness → MetadataV3
bytes_codec endianness = with_configuration (codes "bytes") (codes "endian") (string (endian endianness))

-- the one codec from arrays to bytes: that of the filters, or the codec `bytes` where there is none
abbrev pub array_to_bytes : Option Endianness → List MetadataV3 → Result (List MetadataV3) Refusal
array_to_bytes endianness [] = Ok (bytes_codec endianness ∷ [])
array_to_bytes endianness (codec ∷ []) = Ok (codec ∷ [])
array_to_bytes endianness (codec ∷ another ∷ codecs) = Err multiple_array_to_bytes_codecs

-- no compressor has a form of version 3
abbrev pub without_compressor : {A : Type 0} → Option MetadataV2 → A → Result A Refusal
without_compressor None x = Ok x
without_compressor (Some compressor) x = no_codec compressor

-- the codecs of version 3: the transposition, the filters, the codec `bytes`, the compressor
abbrev pub codecs_v3 : ArrayMetadataV2Order → ℕ → Option Endianness → Option (List MetadataV2) → Option MetadataV2
    → Result (List MetadataV3) Refusal
codecs_v3 order dimensionality endianness filters compressor = do
  vlen ← filters_v3 (unwrap_or filters [])
  to_bytes ← array_to_bytes endianness vlen
  without_compressor compressor (transposition order dimensionality ++ to_bytes)
