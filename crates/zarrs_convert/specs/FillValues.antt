-- Zarr specification version 2, "Fill value encoding", and Zarr core specification 3.1, "Fill value": the fill value
-- in version 3.
-- <https://zarr-specs.readthedocs.io/en/latest/v2/v2.0.html#fill-value-encoding>
-- <https://zarr-specs.readthedocs.io/en/latest/v3/core/index.html#fill-value>
use Rattle.std.specs.Prelude.{ℕ, List, [], ◌∷◌, Bool, true, false, ◌==◌, ◌&&◌, ◌/◌, ◌%◌, bytes_eq, if◌then◌else◌}
use Rattle.std.specs.Prelude.{is_some, Option, Some, None, option_and_then, replicate, Result, Ok, Err, codes}
use Rattle.serde_json.specs.Data.{Data, boolean, number, unsigned, string, array}
use Rattle.serde_json.specs.Find.{as_null, as_number, as_u64}
use Rattle.serde_json.specs.View.{items_of}
use Rattle.zarrs_convert.specs.Refusals.{Refusal, other}
use Rattle.zarrs_convert.specs.Tables.{first_row, is_numbered, number_behind, fits_u64}

-- the fill value is null
abbrev pub is_fill_null : Data → Bool
is_fill_null d = is_some (as_null d)

-- a number was found, and it is this one
abbrev pub is_same : ℕ → Option ℕ → Bool
is_same n None = false
is_same n (Some m) = m == n

-- the fill value is this whole number
abbrev pub is_fill_number : ℕ → Data → Bool
is_fill_number n d = is_same n (option_and_then as_u64 (as_number d))

-- a zero
abbrev pub zero_value : Data
zero_value = number (unsigned 0)

-- as many zeros as this number of bits has bytes, where it fits 64 bits and is whole bytes
abbrev pub zero_bytes : ℕ → Result Data Refusal
zero_bytes bits =
    if fits_u64 bits && (bits % 8 == 0) then Ok (array (items_of (replicate (bits / 8) zero_value)))
    else Err (other (codes "raw bits should be fixed size"))

-- the answers by the fill value and the name of the data type
abbrev pub fill_lines : Data → List ℕ → List (Bool × Result Data Refusal)
fill_lines d name =
    (is_fill_null d && bytes_eq name (codes "string"), Ok (string []))
    ∷ (is_fill_null d && bytes_eq name (codes "bool"), Ok (boolean false))
    ∷ (is_fill_null d && is_numbered (codes "r") name, zero_bytes (number_behind (codes "r") name))
    ∷ (is_fill_null d, Ok zero_value)
    ∷ (bytes_eq name (codes "string") && is_fill_number 0 d, Ok (string []))
    ∷ (bytes_eq name (codes "bool") && is_fill_number 0 d, Ok (boolean false))
    ∷ (bytes_eq name (codes "bool") && is_fill_number 1 d, Ok (boolean true))
    ∷ []

-- the version 3 fill value of a fill value, by the name of the data type; any other is kept
abbrev pub fill_value_v3 : Data → List ℕ → Result Data Refusal
fill_value_v3 d name = first_row (fill_lines d name) (Ok d)
