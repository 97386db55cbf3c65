-- Lists that are sorted and have no item twice.
use Rattle.std.proofs.Common.{◌≡◌, ◌≢◌, suc, ◌≤◌, false, List, [], ◌∷◌, get_or, refl, ◌∙◌, arith}
use Rattle.std.specs.Prelude.{AllPairs}
use Rattle.std.specs.Ordering.{is_lt, is_eq, eq_by_cmp, ordering_reverse}
use Rattle.std.specs.declared.cmp.Ordering.{Ordering}
use Rattle.std.specs.declared.cmp.Ordering.TheVariants.{Less, Equal, Greater}
use Rattle.std.specs.Cmp.{IsTotalOrder}
use Rattle.std.specs.FinMap.{IsAntisymmetric}
use Rattle.std.specs.List.Sorted.{IsSorted, IsStrictlySortedBy, IsPermutation}
use Rattle.std.proofs.lemmas.Cmp.{eq_by_cmp_equiv}
use Rattle.std.proofs.lemmas.List.Sorted.{ranks_by, sorted_far}
use Rattle.std.proofs.lemmas.List.Elements.{recursion_from_All}
use Rattle.std.proofs.lemmas.Map.Keys.{IsDistinct-from_apart, IsDistinct-IsPermutation, apart_from_distinct}

-- from the items' order at every two places
pub strictly_from_pairs : {K : Type 0} (R : K → K → Ordering) (xs : List K)
    → AllPairs (λ x y. R x y ≡ Less) xs → IsStrictlySortedBy R xs
unfolding IsStrictlySortedBy
strictly_from_pairs R [] pairs = tt
strictly_from_pairs R (x ∷ xs) pairs = (
  recursion_from_All (λ y. R x y ≡ Less) xs (λ k d h. pairs 0 (suc k) d (omega arith) (omega arith)),
  strictly_from_pairs R xs (λ i j d h l. pairs (suc i) (suc j) d (omega arith) (omega arith)),
)

-- the reverse of an order that is neither `Less` nor `Equal` is `Less`
less_left : (r s : Ordering) → s ≡ ordering_reverse r → is_lt r ≡ false → is_eq r ≡ false → s ≡ Less
less_left Less s e p q = cc
less_left Equal s e p q = cc
less_left Greater s e p q = e

module _ {K : Type 0} {R : K → K → Ordering} (o : IsTotalOrder R) (same : IsAntisymmetric R) where
  -- items that differ are not tied
  untied : (x y : K) → x ≢ y → eq_by_cmp R x y ≡ false
  untied x y n = elim (R x y) as (λ r. R x y ≡ r → is_eq r ≡ false) [
    | Less ↦ λ _. refl
    | Equal ↦ λ e. absurd (n (same x y e))
    | Greater ↦ λ _. refl
  ] refl

  -- what is sorted and has no item twice ascends strictly, also after its items changed places
  pub strictly_from_sorted : (xs ys : List K) → AllPairs (λ x y. x ≢ y) xs → IsPermutation xs ys → IsSorted R ys → IsStrictlySortedBy R ys
  strictly_from_sorted xs ys once moved up =
      let apart = IsDistinct-IsPermutation (eq_by_cmp R) (eq_by_cmp_equiv o).symm xs ys moved
      (IsDistinct-from_apart (eq_by_cmp R) xs (λ i j d h l. untied _ _ (once i j d h l))) in
      strictly_from_pairs R ys (λ i j d h l.
      let le : i ≤ j = omega arith in
      less_left (R (get_or ys j d) (get_or ys i d)) _ (o.antisymm _ _)
      (sorted_far (λ x y. is_lt (R x y)) (ranks_by o (λ (x : K). x)) ys up i j d le l)
      ((eq_by_cmp_equiv o).symm _ _ ∙ apart_from_distinct (eq_by_cmp R) ys i j d apart h l))
