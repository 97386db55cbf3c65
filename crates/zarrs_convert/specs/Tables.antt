-- How the tables of the conversion are read, and the words that they share.
-- <https://zarr-specs.readthedocs.io/en/latest/v2/v2.0.html#metadata>
-- <https://zarr-specs.readthedocs.io/en/latest/v3/core/index.html#array-metadata>
use Rattle.std.specs.Prelude.{if◌then◌else◌, ℕ, List, [], ◌∷◌, Bool, true, false, bytes_eq, ◌&&◌, Option, Some, None}
use Rattle.std.specs.Prelude.{drop, length, nat_eq, nat_lt, ◌^◌}
use Rattle.std.specs.List.{list_any, starts_with}
use Rattle.std.specs.Str.{all_ascii_digits}
use Rattle.std.specs.Str.Parse.{digits_value}
use Rattle.serde_json.specs.Data.{Data, no_members, member}
use Rattle.zarrs_form.specs.declared.extension.MetadataV3.{MetadataV3}

-- the answer of the first line whose condition holds, or the answer for all else
abbrev pub first_row : {A : Type 0} → List (Bool × A) → A → A
first_row [] rest = rest
first_row (line ∷ lines) rest = if line.0 then line.1 else first_row lines rest

-- the text is one of these
abbrev pub is_among : List (List ℕ) → List ℕ → Bool
is_among texts text = list_any (λ t. bytes_eq t text) texts

-- what the first line that lists the text has beside it
abbrev pub look_up : {A : Type 0} → List (List (List ℕ) × A) → List ℕ → Option A
look_up [] text = None
look_up (line ∷ lines) text = if is_among line.0 text then Some line.1 else look_up lines text

-- the text begins with this one
abbrev pub begins : List ℕ → List ℕ → Bool
begins start text = starts_with nat_eq text start

-- the text is one or more decimal digits
abbrev pub is_decimal : List ℕ → Bool
is_decimal [] = false
is_decimal (d ∷ ds) = all_ascii_digits (d ∷ ds)

-- the text is this one and then one or more decimal digits
abbrev pub is_numbered : List ℕ → List ℕ → Bool
is_numbered start text = begins start text && is_decimal (drop (length start) text)

-- the number that the digits behind a beginning write
abbrev pub number_behind : List ℕ → List ℕ → ℕ
number_behind start text = digits_value 10 (drop (length start) text)

-- the number fits 64 bits
abbrev pub fits_u64 : ℕ → Bool
fits_u64 n = nat_lt n (2 ^ 64)

-- the extension that has this name alone
abbrev pub name_alone : List ℕ → MetadataV3
name_alone name = record { name = name; configuration = None; must_understand = true }

-- the extension of this name, with an empty configuration
abbrev pub with_no_configuration : List ℕ → MetadataV3
with_no_configuration name = record { name = name; configuration = Some no_members; must_understand = true }

-- the extension of this name, whose configuration has one member
abbrev pub with_configuration : List ℕ → List ℕ → Data → MetadataV3
with_configuration name key value = record {
  name = name;
  configuration = Some (member key value no_members);
  must_understand = true;
}
