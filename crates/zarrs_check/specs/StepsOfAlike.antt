-- Steps of finding names that differ in case alone; no public contract rests on them.
use Rattle.std.specs.Prelude.{◌≡◌, ◌⊎◌, ℕ, List, [], ◌∷◌, ◌++◌, Contains, Option, Some, None, map}
use Rattle.std.specs.Char.{to_ascii_lowercase}
use Rattle.std.specs.declared.cmp.Ordering.TheVariants.{Less}
use Rattle.zarrs_path.specs.Paths.{Path, path_cmp}

-- k is p with small letters in its last name
abbrev pub IsFoldedTo : Path → Path → Type 0
IsFoldedTo p k = (g : Path) × (x : List ℕ) × (p ≡ g ++ x ∷ []) × (k ≡ g ++ map to_ascii_lowercase x ∷ [])

-- the same, and nothing for the root
abbrev pub IsFolded : Path → Option Path → Type 0
IsFolded p None = p ≡ []
IsFolded p (Some k) = IsFoldedTo p k

-- the last of these paths that fold to k
abbrev pub IsLastOf : List Path → Path → Option Path → Type 0
IsLastOf done k None = (r : Path) → Contains done r → IsFoldedTo r k → ⊥
IsLastOf done k (Some p) =
    Contains done p × IsFoldedTo p k × ((r : Path) → Contains done r → IsFoldedTo r k → (r ≡ p) ⊎ (path_cmp r p ≡ Less))
