-- The lengths of a chunk, counted item by item.
use Rattle.std.specs.Prelude.{ℕ, ◌+◌, Bool, ◌||◌, List, length, Option, option_map}
use Rattle.zarrs_form.specs.FormsV2.{has_zero}
use Rattle.zarrs_notes.specs.declared.shapes.Lengths.{Lengths}

-- what n lengths, of which some was 0 or none, and those of a list come to
abbrev pub ahead : ℕ → Bool → Option (List ℕ) → Option Lengths
ahead n z lengths = option_map (λ ns. record { count = n + length ns; has_zero = z || has_zero ns }) lengths
