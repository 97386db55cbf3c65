-- All paths above a path, one after another.
use Rattle.std.proofs.Common.{◌⊎◌, inl, ⊎_elim, inr, List, [], ◌∷◌, ◌++◌, Option, Some, None, sym, subst, Contains}
use Rattle.std.proofs.lemmas.List.Elements.{Contains-append_left, Contains-append_right}
use Rattle.zarrs_path.specs.Paths.{Path, IsBelow, IsParent}
use Rattle.zarrs_node.proofs.ForestsBeside.{Contains-first}
use Rattle.zarrs_check.specs.Findings.{IsAtOrAbove}
use Rattle.zarrs_node.proofs.KeptOfLists.{above_child}
use Rattle.zarrs_check.proofs.Above.{at_itself, at_or_above, up_cases}
use Rattle.zarrs_check.proofs.GroupsAbove.{none_above_root}

-- g is the next path or above it
abbrev IsNextOrAbove : Option Path → Path → Type 0
IsNextOrAbove None g = ⊥
IsNextOrAbove (Some q) g = IsAtOrAbove g q

-- each path above b is one of these, or the next one, or above that
abbrev pub AreAboveBut : Path → List Path → Option Path → Type 0
AreAboveBut b paths next = (g : Path) → IsBelow g b → Contains paths g ⊎ IsNextOrAbove next g

-- what is above a path is its parent or above that
above_parent : (b g : Path) (next : Option Path) → IsParent b next → IsBelow g b → IsNextOrAbove next g
above_parent b g None root low = none_above_root g (subst (IsBelow g) root low)
above_parent b g (Some q) (n, is) low =
    ⊎_elim (λ same. at_itself g q (sym same)) (λ up. at_or_above g q up) (above_child g q n (subst (IsBelow g) is low))

-- at first none is among them, then one more
pub first_above : (b : Path) (paths : List Path) (next : Option Path) → IsParent b next → AreAboveBut b paths next
first_above b paths next parent g low = inr (above_parent b g next parent low)

-- where the next path is put behind the paths, its parent is the next
pub more_above : (b q : Path) (paths : List Path) (next : Option Path) → IsParent q next → AreAboveBut b paths (Some q) → AreAboveBut b (paths ++ q ∷ []) next
more_above b q paths next parent h g low = ⊎_elim
    (λ in'. inl (Contains-append_left paths (q ∷ []) g in'))
    (λ up. ⊎_elim
    (λ same. inl (Contains-append_right paths (q ∷ []) g (subst (Contains (q ∷ [])) same (Contains-first q []))))
    (λ above. inr (above_parent q g next parent above))
    (up_cases g q up))
    (h g low)

-- where there is no next path, each path above b is one of the paths
pub no_more_above : (b : Path) (paths : List Path) → AreAboveBut b paths None → (g : Path) → IsBelow g b → Contains paths g
no_more_above b paths h g low = ⊎_elim (λ in'. in') (λ none. absurd none) (h g low)
