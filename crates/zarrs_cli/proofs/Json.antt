-- The JSON of remarks holds no number.
use Rattle.std.proofs.Common.{◌≡◌, false, List, [], ◌∷◌, map, Option, Some, None, ◌||◌, refl, ap, ◌∙◌, ℕ}
use Rattle.serde_json.specs.View.{items_of, view}
use Rattle.serde_json.specs.Written.{has_float, items_have_float, compact_text}
use Rattle.serde_json.specs.declared.value.Value.{Value}
use Rattle.zarrs_path.specs.Paths.{Path}
use Rattle.zarrs_cli.specs.declared.remark.Remark.{Remark}
use Rattle.zarrs_cli.specs.Json.{text_or_null, path_or_null, remark_data, remarks_data}

-- the text of a path holds none
path_whole : (p : Option Path) → has_float (path_or_null p) ≡ false
path_whole None = refl
path_whole (Some p) = refl

-- nor does a text
text_whole : (text : Option (List ℕ)) → has_float (text_or_null text) ≡ false
text_whole None = refl
text_whole (Some text) = refl

-- nor the object of a remark
remark_whole : (r : Remark) → has_float (remark_data r) ≡ false
remark_whole r = ap (λ b. b || (has_float (text_or_null r.key) || false)) (path_whole r.group) ∙ ap (λ b. b || false) (text_whole r.key)

-- nor do all of them
items_whole : (rs : List Remark) → items_have_float (items_of (map remark_data rs)) ≡ false
items_whole [] = refl
items_whole (r ∷ rs) = ap (λ b. b || items_have_float (items_of (map remark_data rs))) (remark_whole r) ∙ items_whole rs

-- so what is written of the array of them is its text
pub json_written : (array : Value) (rs : List Remark) (written : List ℕ) → view array ≡ remarks_data rs → (has_float (view array) ≡ false → written ≡ compact_text (view array))
    → written ≡ compact_text (remarks_data rs)
json_written array rs written same is = is (ap has_float same ∙ items_whole rs) ∙ ap compact_text same
