-- Zarr core specification 3.1, "Data types" and "Fill value": the values of the core data types, as JSON.
-- <https://zarr-specs.readthedocs.io/en/latest/v3/core/index.html#data-types>
-- <https://zarr-specs.readthedocs.io/en/latest/v3/core/index.html#fill-value>
--     fill_values      the core data types, each with the fill values that it has
--     is_fill_value name d      the data type of this name has this fill value, or it is no core data type
use Rattle.std.specs.Prelude.{ℕ, ℤ, pos, negsuc, int_le, ◌-◌, ◌^◌, ◌==◌, ◌&&◌, ◌||◌, Bool, true, false, is_some}
use Rattle.std.specs.Prelude.{List, [], ◌∷◌, length, drop, Option, Some, None, option_and_then, bytes_eq, nat_eq, codes}
use Rattle.std.specs.Prelude.{if◌then◌else◌}
use Rattle.std.specs.Char.{is_ascii_hexdigit}
use Rattle.std.specs.List.{list_all, list_any, starts_with}
use Rattle.serde_json.specs.Data.{Data, null, boolean, number, string, array, object, Items, no_items, item}
use Rattle.serde_json.specs.Find.{as_bool, as_integer, as_number}

-- ---- whole numbers

-- a whole number was found, from the first of these to the last
abbrev pub is_between : ℤ → ℤ → Option ℤ → Bool
is_between first last None = false
is_between first last (Some z) = int_le first z && int_le z last

-- a number without a fraction and without an exponent, from the first of these to the last
abbrev pub is_whole : ℤ → ℤ → Data → Bool
is_whole first last d = is_between first last (option_and_then as_integer (as_number d))

-- such a number that a sign and this many bits hold, in two's complement
abbrev pub is_signed : ℕ → Data → Bool
is_signed bits d = is_whole (negsuc (2 ^ bits - 1)) (pos (2 ^ bits - 1)) d

-- such a number that this many bits hold without a sign
abbrev pub is_unsigned : ℕ → Data → Bool
is_unsigned bits d = is_whole (pos 0) (pos (2 ^ bits - 1)) d

-- ---- floating point numbers

-- the names of the values that are no numbers of JSON
abbrev pub float_names : List (List ℕ)
float_names = codes "NaN" ∷ codes "Infinity" ∷ codes "-Infinity" ∷ []

-- `0x` and this many hexadecimal digits, two for each byte of the value
abbrev pub is_hexadecimal : ℕ → List ℕ → Bool
is_hexadecimal digits text =
    starts_with nat_eq text (codes "0x") && (length (drop 2 text) == digits) && list_all is_ascii_hexdigit (drop 2 text)

-- a number, a name, or the bytes of the value in this many hexadecimal digits
abbrev pub is_float_value : ℕ → Data → Bool
is_float_value digits null = false
is_float_value digits (boolean b) = false
is_float_value digits (number n) = true
is_float_value digits (string s) = list_any (λ name. bytes_eq s name) float_names || is_hexadecimal digits s
is_float_value digits (array ds) = false
is_float_value digits (object ms) = false

-- the real and the imaginary part, each such a value
abbrev pub is_pair : ℕ → Items → Bool
is_pair digits (item re (item im no_items)) = is_float_value digits re && is_float_value digits im
is_pair digits _ = false

-- a complex number: an array of its two parts
abbrev pub is_complex_value : ℕ → Data → Bool
is_complex_value digits null = false
is_complex_value digits (boolean b) = false
is_complex_value digits (number n) = false
is_complex_value digits (string s) = false
is_complex_value digits (array ds) = is_pair digits ds
is_complex_value digits (object ms) = false

-- ---- data types

-- the core data types but for raw bits, each with what its fill values are
abbrev pub fill_values : List (List ℕ × (Data → Bool))
fill_values =
    (codes "bool", λ d. is_some (as_bool d))
    ∷ (codes "int8", is_signed 7)
    ∷ (codes "int16", is_signed 15)
    ∷ (codes "int32", is_signed 31)
    ∷ (codes "int64", is_signed 63)
    ∷ (codes "uint8", is_unsigned 8)
    ∷ (codes "uint16", is_unsigned 16)
    ∷ (codes "uint32", is_unsigned 32)
    ∷ (codes "uint64", is_unsigned 64)
    ∷ (codes "float16", is_float_value 4)
    ∷ (codes "float32", is_float_value 8)
    ∷ (codes "float64", is_float_value 16)
    ∷ (codes "complex64", is_complex_value 8)
    ∷ (codes "complex128", is_complex_value 16)
    ∷ []

-- the row of this name has the fill value, or there is no such row
abbrev pub is_allowed : List (List ℕ × (Data → Bool)) → List ℕ → Data → Bool
is_allowed [] name d = true
is_allowed (row ∷ rows) name d = if bytes_eq name row.0 then row.1 d else is_allowed rows name d

-- the data type of this name has the fill value, as far as it is a core data type
abbrev pub is_fill_value : List ℕ → Data → Bool
is_fill_value name d = is_allowed fill_values name d
