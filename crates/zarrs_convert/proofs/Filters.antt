-- Lemmas on the filters of an array.
use Rattle.std.proofs.Common.{◌≡◌, ◌<◌, List, [], ◌∷◌, ◌++◌, Option, Result, Ok, Err, length, refl, arith}
use Rattle.zarrs_form.specs.declared.extension.MetadataV3.{MetadataV3}
use Rattle.zarrs_form.specs.declared.data_type.Endianness.{Endianness}
use Rattle.zarrs_convert.specs.Codecs.{array_to_bytes, bytes_codec}
use Rattle.zarrs_convert.specs.Refusals.{◌>>=◌, Refusal, multiple_array_to_bytes_codecs}

-- these codecs, and then those that are still to come
abbrev pub after : List MetadataV3 → Result (List MetadataV3) Refusal → Result (List MetadataV3) Refusal
after done rest = rest >>= λ codecs. Ok (done ++ codecs)

-- without filters there is the codec `bytes`
pub to_bytes_none : (e : Option Endianness) (codecs : List MetadataV3) → length codecs ≡ 0 → array_to_bytes e codecs ≡ Ok (codecs ++ bytes_codec e ∷ [])
to_bytes_none e [] h = refl
to_bytes_none e (c ∷ cs) h = absurd (omega arith)

-- one filter is enough
pub to_bytes_one : (e : Option Endianness) (codecs : List MetadataV3) → 0 < length codecs → length codecs < 2 → array_to_bytes e codecs ≡ Ok codecs
to_bytes_one e [] h k = absurd (omega arith)
to_bytes_one e (c ∷ []) h k = refl
to_bytes_one e (c ∷ d ∷ cs) h k = absurd (omega arith)

-- more are too many
pub to_bytes_many : (e : Option Endianness) (codecs : List MetadataV3) → 1 < length codecs → array_to_bytes e codecs ≡ Err multiple_array_to_bytes_codecs
to_bytes_many e [] h = absurd (omega arith)
to_bytes_many e (c ∷ []) h = absurd (omega arith)
to_bytes_many e (c ∷ d ∷ cs) h = refl
