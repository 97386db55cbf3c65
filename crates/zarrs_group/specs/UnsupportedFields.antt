-- Zarr core specification 3.1, "Extension points": an additional field that must be understood.
-- <https://zarr-specs.readthedocs.io/en/latest/v3/core/index.html#extension-points>
use Rattle.std.specs.Prelude.{ℕ, List, refl}
use Rattle.std.specs.Coded.{Coded, code_by, coded×, coded_list, coded_ℕ}
use Rattle.serde_json.specs.Data.{Data}
use Rattle.zarrs_form.specs.DataCode.{data_code}

-- a field by its name and its value
pub record UnsupportedField : Type 0 where
  pub name : List ℕ
  pub value : Data

-- a field is stored as the pair of its name and its value
abbrev pub field_code : Coded UnsupportedField
field_code =
    code_by (List ℕ × Data) (coded× (coded_list coded_ℕ) data_code) (λ f. (f.name, f.value))
    (λ p. record { name = p.0; value = p.1 }) (λ _. refl)
