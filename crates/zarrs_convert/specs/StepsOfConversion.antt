-- Steps of a conversion: what its private calls answer; no public contract rests on them.
use Rattle.std.specs.Prelude.{if◌then◌else◌, ◌≡◌, string_bytes, ℕ, List, Option, Some, None, drop, length}
use Rattle.serde_json.specs.View.{members_view}
use Rattle.zarrs_form.specs.declared.data_type.DataTypeMetadataV2.{DataTypeMetadataV2}
use Rattle.zarrs_form.specs.declared.codec.MetadataV2.{MetadataV2}
use Rattle.zarrs_convert.specs.declared.error.ArrayMetadataV2ToV3Error.{ArrayMetadataV2ToV3Error}
use Rattle.zarrs_convert.specs.declared.error.ArrayMetadataV2ToV3Error.TheVariants.{UnsupportedDataType}
use Rattle.zarrs_convert.specs.declared.error.ArrayMetadataV2ToV3Error.TheVariants.{UnsupportedCodec, OutOfMemory}
use Rattle.zarrs_convert.specs.Tables.{is_numbered}

-- the error names a codec of version 2, or out of memory
abbrev pub NamesCodec : MetadataV2 → ArrayMetadataV2ToV3Error → Type 0
NamesCodec codec (UnsupportedCodec id configuration) =
    (string_bytes id ≡ codec.id) × (members_view configuration.entries ≡ codec.configuration)
NamesCodec codec OutOfMemory = Unit {0}
NamesCodec codec _ = ⊥

-- the error names a data type of version 2, or out of memory
abbrev pub NamesDataType : DataTypeMetadataV2 → ArrayMetadataV2ToV3Error → Type 0
NamesDataType data_type (UnsupportedDataType named) = named ≡ data_type
NamesDataType data_type OutOfMemory = Unit {0}
NamesDataType data_type _ = ⊥

-- the digits behind a beginning, where the text is the beginning and one or more digits
abbrev pub digits_behind : List ℕ → List ℕ → Option (List ℕ)
digits_behind start text = if is_numbered start text then Some (drop (length start) text) else None
