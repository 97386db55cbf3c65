-- What stands at or above a path.
use Rattle.std.proofs.Common.{◌≡◌, ℕ, ◌⊎◌, inl, inr, ⊎_elim, true, false, true≢false, List, [], ◌∷◌, ◌++◌, drop, get_or, length, length-append, refl, sym, ap, ◌∙◌, arith, append_assoc, append-nil, Less, Greater}
use Rattle.std.proofs.Math.Seq.{drop-append_seam}
use Rattle.std.proofs.lemmas.List.{append_cancel_left}
use Rattle.std.specs.Ordering.{ordering_reverse}
use Rattle.zarrs_path.specs.Paths.{Path, path_cmp, path_eq, IsBelow}
use Rattle.zarrs_path.specs.PathOrder.{path_decides, path_total}
use Rattle.zarrs_check.specs.Findings.{IsAtOrAbove}

-- a path is at itself
pub at_itself : (q p : Path) → p ≡ q → IsAtOrAbove q p
at_itself q p e = ([], e ∙ sym (append-nil q))

-- what is above is at or above
pub at_or_above : (q p : Path) → IsBelow q p → IsAtOrAbove q p
at_or_above q p h = (h.0 ∷ h.1, h.2)

-- what is at or above is the path, or above it
pub up_cases : (q p : Path) → IsAtOrAbove q p → (p ≡ q) ⊎ IsBelow q p
up_cases q p ([], e) = inl (e ∙ append-nil q)
up_cases q p (n ∷ ns, e) = inr (n, ns, e)

-- what is above what is at or above is at or above
pub above_up : (q r g : Path) → IsBelow q r → IsAtOrAbove r g → IsAtOrAbove q g
above_up q r g h u = ((h.0 ∷ h.1) ++ u.0, u.1 ∙ ap (λ x. x ++ u.0) h.2 ∙ append_assoc q (h.0 ∷ h.1) u.0)

-- what is below b and above a path that goes on from b with a name is b and that name, or below it
pub goes_through : (b q : Path) (n : List ℕ) (rest : Path) → IsBelow b q → IsBelow q (b ++ n ∷ rest) → IsAtOrAbove (b ++ n ∷ []) q
goes_through b q n rest low above =
    let tail : Path = low.1 ++ above.0 ∷ above.1 in
    let whole : b ++ n ∷ rest ≡ b ++ low.0 ∷ tail = above.2 ∙ ap (λ x. x ++ above.0 ∷ above.1) low.2 ∙ append_assoc b (low.0 ∷ low.1) (above.0 ∷ above.1) in
    let parts = append_cancel_left b (n ∷ rest) (low.0 ∷ tail) whole in
    let same : n ≡ low.0 = ap (λ l. get_or l 0 n) parts in
    (low.1, low.2 ∙ ap (λ k. b ++ k ∷ low.1) (sym same) ∙ sym (append_assoc b (n ∷ []) low.1))

-- whether two paths are one
pub same_or_not : (p q : Path) → (p ≡ q) ⊎ (p ≡ q → ⊥)
same_or_not p q = elim (path_eq p q) as (λ t. path_eq p q ≡ t → (p ≡ q) ⊎ (p ≡ q → ⊥)) [
  | true ↦ λ is. inl ((path_decides p q).0 is)
  | false ↦ λ is. inr (λ e. true≢false (sym ((path_decides p q).1 e) ∙ is))
] refl

-- where one path is after another, that is before it
pub earlier_after : (p q : Path) → path_cmp p q ≡ Greater → path_cmp q p ≡ Less
earlier_after p q h = path_total.antisymm q p ∙ ap ordering_reverse h

-- whether a path is below another: it goes on behind its length as it does
pub below_or_not : (b p : Path) → IsBelow b p ⊎ (IsBelow b p → ⊥)
below_or_not b p = ⊎_elim (λ same. behind (drop (length b) p) same) (λ other. inr (λ low. other (low.2 ∙ ap (λ x. b ++ x) (sym (rest_of low))))) (same_or_not p (b ++ drop (length b) p))
  where
    rest_of : (low : IsBelow b p) → drop (length b) p ≡ low.0 ∷ low.1
    rest_of low = ap (drop (length b)) low.2 ∙ drop-append_seam b (low.0 ∷ low.1)

    behind : (rest : Path) → p ≡ b ++ rest → IsBelow b p ⊎ (IsBelow b p → ⊥)
    behind (n ∷ ns) same = inl (n, ns, same)
    behind [] same = inr (λ low. absurd (
        let long = ap length (sym same ∙ low.2) in
        let less = length-append b (low.0 ∷ low.1) in
        let more = length-append b [] in
        omega (arith, long, less, more)))
