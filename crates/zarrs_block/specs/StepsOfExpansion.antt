-- Steps of the expansion of a block: which keys are paths as they stand; no public contract rests on them.
use Rattle.std.specs.Prelude.{◌≡◌, ◌≢◌, nat_lt, ℕ, Bool, false, List, ◌∷◌}
use Rattle.std.specs.List.{list_any}
use Rattle.zarrs_fault.specs.Bytes.{slash}

-- the byte is below the slash
abbrev pub is_low : ℕ → Bool
is_low c = nat_lt c slash

-- the key begins with no slash, and no byte of it is below the slash: such keys ascend as their paths do
abbrev pub IsPlainKey : List ℕ → Type 0
IsPlainKey t = ((rest : List ℕ) → t ≢ slash ∷ rest) × (list_any is_low t ≡ false)
