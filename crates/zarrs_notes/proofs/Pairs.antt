-- Items that are not two are no pair.
use Rattle.std.proofs.Common.{◌≡◌, ℕ, ◌<◌, false, List, [], ◌∷◌, length, refl, arith}
use Rattle.serde_json.specs.View.{items_of}
use Rattle.serde_json.specs.Data.{Data}
use Rattle.zarrs_notes.specs.FillValues.{is_pair}

-- fewer are none
pub too_few : (digits : ℕ) (ds : List Data) → length ds < 2 → false ≡ is_pair digits (items_of ds)
too_few digits [] h = refl
too_few digits (d ∷ []) h = refl
too_few digits (d ∷ e ∷ ds) h = absurd (omega (arith, h))

-- and more are none
pub too_many : (digits : ℕ) (ds : List Data) → 2 < length ds → false ≡ is_pair digits (items_of ds)
too_many digits [] h = absurd (omega (arith, h))
too_many digits (d ∷ []) h = absurd (omega (arith, h))
too_many digits (d ∷ e ∷ []) h = absurd (omega (arith, h))
too_many digits (d ∷ e ∷ f ∷ ds) h = refl
