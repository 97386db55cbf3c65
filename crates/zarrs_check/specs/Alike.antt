-- Zarr core specification 3.1, "Node names": names that differ in case alone, which a file system that takes no note
-- of case takes for one.
-- <https://zarr-specs.readthedocs.io/en/latest/v3/core/index.html#node-names>
--     AreAlike p q      two paths of one group whose names are the same but for the case of the letters from A to Z
--     IsAlike N t      a path of N, and the last one before it that is alike
--     AreAlikeAmong N found      these are exactly all such pairs, in the order of paths
use Rattle.std.specs.Prelude.{◌≡◌, ◌⊎◌, ◌↔◌, ℕ, List, [], ◌∷◌, ◌++◌, AllPairs, Contains, map}
use Rattle.std.specs.Char.{to_ascii_lowercase}
use Rattle.std.specs.declared.cmp.Ordering.TheVariants.{Less}
use Rattle.zarrs_path.specs.Paths.{Path, path_cmp}

-- both are of one group, and their names are the same but for the case of the letters from A to Z
abbrev pub AreAlike : Path → Path → Type 0
AreAlike p q =
    (g : Path) × (x y : List ℕ) × (p ≡ g ++ x ∷ []) × (q ≡ g ++ y ∷ [])
    × (map to_ascii_lowercase x ≡ map to_ascii_lowercase y)

-- the first path of the pair is one of N, and the second one is the last before it that is alike
pub record IsAlike (N : Path → Type 0) (t : Path × Path) : Type 0 where
  pub here : N t.0
  pub there : N t.1
  pub alike : AreAlike t.1 t.0
  pub before : path_cmp t.1 t.0 ≡ Less
  pub last : (r : Path) → N r → AreAlike r t.0 → path_cmp r t.0 ≡ Less → (r ≡ t.1) ⊎ (path_cmp r t.1 ≡ Less)

-- the pairs are exactly those, each once, in the order of paths
pub record AreAlikeAmong (N : Path → Type 0) (found : List (Path × Path)) : Type 0 where
  pub exact : (t : Path × Path) → Contains found t ↔ IsAlike N t
  pub ascend : AllPairs (λ t u. path_cmp t.0 u.0 ≡ Less) found
