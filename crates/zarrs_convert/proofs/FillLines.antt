-- Lemmas on the lines of fill values.
use Rattle.std.proofs.Common.{◌≡◌, ℕ, ◌+◌, ◌++◌, ◌∷◌, map, replicate, List, [], true, true≢false, refl, sym, ◌∙◌}
use Rattle.serde_json.specs.Data.{Data, null, boolean, number, string, array, object}
use Rattle.serde_json.specs.View.{view}
use Rattle.serde_json.specs.declared.value.Value.{Value}
use Rattle.std.proofs.lemmas.List.{map-append, replicate_more}
use Rattle.zarrs_convert.specs.FillValues.{is_fill_null, zero_value}

-- the fill value that is null
pub null_is : (d : Data) → is_fill_null d ≡ true → d ≡ null
null_is null e = refl
null_is (boolean b) e = absurd (true≢false (sym e))
null_is (number n) e = absurd (true≢false (sym e))
null_is (string s) e = absurd (true≢false (sym e))
null_is (array ds) e = absurd (true≢false (sym e))
null_is (object ms) e = absurd (true≢false (sym e))

-- one more zero
pub zeros_more : (vs : List Value) (v : Value) (n : ℕ) → map view vs ≡ replicate n zero_value → view v ≡ zero_value → map view (vs ++ v ∷ []) ≡ replicate (n + 1) zero_value
zeros_more vs v n e f = map-append view vs (v ∷ []) ∙ (λ i. e i ++ (f i ∷ [])) ∙ replicate_more n zero_value
