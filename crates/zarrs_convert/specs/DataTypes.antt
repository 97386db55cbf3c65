-- Zarr specification version 2, "Data type encoding", and Zarr core specification 3.1, "Data types": byte orders, and
-- the data types of version 2 by their names in version 3.
-- <https://zarr-specs.readthedocs.io/en/latest/v2/v2.0.html#data-type-encoding>
-- <https://zarr-specs.readthedocs.io/en/latest/v3/core/index.html#data-types>
use Rattle.std.specs.Prelude.{ℕ, List, [], ◌∷◌, ◌++◌, ◌*◌, ◌&&◌, if◌then◌else◌, Option, Some, None, Result, Ok, Err}
use Rattle.std.specs.Prelude.{option_map, codes}
use Rattle.std.specs.Fmt.{decimal}
use Rattle.zarrs_form.specs.declared.extension.MetadataV3.{MetadataV3}
use Rattle.zarrs_form.specs.declared.data_type.DataTypeMetadataV2.{DataTypeMetadataV2}
use Rattle.zarrs_form.specs.declared.data_type.DataTypeMetadataV2.TheVariants.{Simple, Structured}
use Rattle.zarrs_form.specs.declared.data_type.Endianness.{Endianness}
use Rattle.zarrs_form.specs.declared.data_type.Endianness.TheVariants.{Little, Big}
use Rattle.zarrs_convert.specs.Refusals.{Refusal, unsupported_data_type}
use Rattle.zarrs_convert.specs.Tables.{first_row, look_up, begins, is_numbered, number_behind, fits_u64, name_alone}

-- the byte order by the first character of a data type; a list has none, and any other text has no answer
abbrev pub byte_order : DataTypeMetadataV2 → Result (Option Endianness) (List ℕ)
byte_order (Simple text) =
    first_row (
    (begins (codes "<") text, Ok (Some Little))
    ∷ (begins (codes ">") text, Ok (Some Big))
    ∷ (begins (codes "|") text, Ok None)
    ∷ []
    ) (Err text)
byte_order (Structured fields) = Ok None

-- the data types by byte order, kind and size, and their names in version 3
abbrev pub data_types : List (List (List ℕ) × List ℕ)
data_types =
    (codes "|b1" ∷ [], codes "bool")
    ∷ (codes "|i1" ∷ [], codes "int8")
    ∷ (codes "|u1" ∷ [], codes "uint8")
    ∷ (codes "<i2" ∷ codes ">i2" ∷ [], codes "int16")
    ∷ (codes "<i4" ∷ codes ">i4" ∷ [], codes "int32")
    ∷ (codes "<i8" ∷ codes ">i8" ∷ [], codes "int64")
    ∷ (codes "<u2" ∷ codes ">u2" ∷ [], codes "uint16")
    ∷ (codes "<u4" ∷ codes ">u4" ∷ [], codes "uint32")
    ∷ (codes "<u8" ∷ codes ">u8" ∷ [], codes "uint64")
    ∷ (codes "<f2" ∷ codes ">f2" ∷ [], codes "float16")
    ∷ (codes "<f4" ∷ codes ">f4" ∷ [], codes "float32")
    ∷ (codes "<f8" ∷ codes ">f8" ∷ [], codes "float64")
    ∷ (codes "<c8" ∷ codes ">c8" ∷ [], codes "complex64")
    ∷ (codes "<c16" ∷ codes ">c16" ∷ [], codes "complex128")
    ∷ (codes "|O" ∷ [], codes "string")
    ∷ []

-- the number of bits of raw bits: `|V` and a number of bytes is eight times as many bits, where that fits 64 bits
abbrev pub raw_size : List ℕ → Option ℕ
raw_size text =
    if is_numbered (codes "|V") text && fits_u64 (8 * number_behind (codes "|V") text)
    then Some (8 * number_behind (codes "|V") text) else None

-- raw bits are `r` and the number of bits
abbrev pub raw_bits : List ℕ → Option (List ℕ)
raw_bits text = option_map (λ bits. codes "r" ++ decimal bits) (raw_size text)

-- the first that there is
abbrev pub or_else : {A : Type 0} → Option A → Option A → Option A
or_else None second = second
or_else (Some x) second = Some x

-- the name in version 3 of a data type that is a text
abbrev pub data_type_name : List ℕ → Option (List ℕ)
data_type_name text = or_else (look_up data_types text) (raw_bits text)

-- a name is a data type without configuration; where there is none, the data type of version 2 is unsupported
abbrev pub data_type_of_name : DataTypeMetadataV2 → Option (List ℕ) → Result MetadataV3 Refusal
data_type_of_name data_type None = Err (unsupported_data_type data_type)
data_type_of_name data_type (Some name) = Ok (name_alone name)

-- the version 3 data type of a version 2 data type; a list has none
abbrev pub data_type_v3 : DataTypeMetadataV2 → Result MetadataV3 Refusal
data_type_v3 (Simple text) = data_type_of_name (Simple text) (data_type_name text)
data_type_v3 (Structured fields) = Err (unsupported_data_type (Structured fields))
