-- Zarr core specification 3.1, "Array metadata": why an array of version 2 has no form of version 3.
-- <https://zarr-specs.readthedocs.io/en/latest/v3/core/index.html#array-metadata>
use Rattle.std.specs.Prelude.{◌≡◌, ℕ, List, Option, Result, Ok, Err, IsErr, string_bytes}
use Rattle.serde_json.specs.Data.{Members}
use Rattle.serde_json.specs.View.{members_view}
use Rattle.zarrs_form.specs.declared.data_type.DataTypeMetadataV2.{DataTypeMetadataV2}
use Rattle.zarrs_form.specs.declared.data_type.Endianness.{Endianness}
use Rattle.zarrs_convert.specs.declared.error.ArrayMetadataV2ToV3Error.{ArrayMetadataV2ToV3Error}
use Rattle.zarrs_convert.specs.declared.error.ArrayMetadataV2ToV3Error.TheVariants.{UnsupportedDataType}
use Rattle.zarrs_convert.specs.declared.error.ArrayMetadataV2ToV3Error.TheVariants.{InvalidEndianness, UnsupportedCodec}
use Rattle.zarrs_convert.specs.declared.error.ArrayMetadataV2ToV3Error.TheVariants.{UnsupportedFillValue, SerdeError}
use Rattle.zarrs_convert.specs.declared.error.ArrayMetadataV2ToV3Error.TheVariants.{MultipleArrayToBytesCodecs, Other}
use Rattle.zarrs_convert.specs.declared.error.ArrayMetadataV2ToV3Error.TheVariants.{OutOfMemory}
use Rattle.zarrs_convert.specs.declared.error.DataTypeMetadataV2EndiannessError.{DataTypeMetadataV2EndiannessError}
use Rattle.zarrs_convert.specs.declared.error.DataTypeMetadataV2EndiannessError.TheVariants.{Invalid}
use Rattle.zarrs_convert.specs.declared.error.DataTypeMetadataV2EndiannessError.TheVariants.{OutOfMemory as NoMemory}

-- why there is no form of version 3: the fault with what it names
pub data Refusal : Type 0 where
  unsupported_data_type : DataTypeMetadataV2 → Refusal
  invalid_endianness : List ℕ → Refusal
  unsupported_codec : List ℕ → Members → Refusal
  multiple_array_to_bytes_codecs : Refusal
  other : List ℕ → Refusal

infixl 10 ◌>>=◌
-- a step of a conversion, and the next where it answered a value
abbrev pub ◌>>=◌ : {A B : Type 0} → Result A Refusal → (A → Result B Refusal) → Result B Refusal
(Ok x) >>= f = f x
(Err e) >>= f = Err e

-- an error is the refusal that the table answers; out of memory says nothing, and two errors never come
abbrev pub ShowsRefusal : {B : Type 0} → ArrayMetadataV2ToV3Error → Result B Refusal → Type 0
ShowsRefusal (UnsupportedDataType data_type) answer = answer ≡ Err (unsupported_data_type data_type)
ShowsRefusal (InvalidEndianness (Invalid text)) answer = answer ≡ Err (invalid_endianness (string_bytes text))
ShowsRefusal (InvalidEndianness NoMemory) answer = Unit {0}
ShowsRefusal (UnsupportedCodec id configuration) answer =
    answer ≡ Err (unsupported_codec (string_bytes id) (members_view configuration.entries))
ShowsRefusal (UnsupportedFillValue name fill_value) answer = ⊥
ShowsRefusal (SerdeError error) answer = ⊥
ShowsRefusal MultipleArrayToBytesCodecs answer = answer ≡ Err multiple_array_to_bytes_codecs
ShowsRefusal (Other text) answer = answer ≡ Err (other (string_bytes text))
ShowsRefusal OutOfMemory answer = Unit {0}

-- a call answers what the table does: its value as it is seen, or its refusal
abbrev pub AnswersAs : {A B : Type 0} → (A → B) → Result A ArrayMetadataV2ToV3Error → Result B Refusal → Type 0
AnswersAs see (Ok x) answer = answer ≡ Ok (see x)
AnswersAs see (Err e) answer = ShowsRefusal e answer

-- the call on byte orders answers what its table does: the byte order, or the text that has none; it is out of memory
-- for such a text alone
abbrev pub GivesOrder : Result (Option Endianness) DataTypeMetadataV2EndiannessError
    → Result (Option Endianness) (List ℕ) → Type 0
GivesOrder (Ok order) answer = answer ≡ Ok order
GivesOrder (Err (Invalid text)) answer = answer ≡ Err (string_bytes text)
GivesOrder (Err NoMemory) answer = IsErr answer
