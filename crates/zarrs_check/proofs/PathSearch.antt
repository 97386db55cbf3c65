-- Paths of which none is below another, in their order: what a search by halving tells of those at or above a path.
use Rattle.std.proofs.Common.{◌≡◌, ◌↔◌, ℕ, suc, ◌<◌, ◌≤◌, ◌+◌, ◌-◌, ⊎_elim, List, [], ◌∷◌, length, get_or, sym, ap, subst, ◌∙◌, arith, AllPairs, Contains, Less, Equal, Greater, Err}
use Rattle.std.proofs.Math.Nat.{eq-or-lt_of_le}
use Rattle.std.proofs.lemmas.Bool.{cases_lt}
use Rattle.std.proofs.lemmas.List.{get_or_default, get_or_read}
use Rattle.std.proofs.lemmas.List.Elements.{Contains-get_or}
use Rattle.std.proofs.lemmas.List.Sorted.{searchable_from_sorted}
use Rattle.std.specs.List.{AllWithin, HoldsAt}
use Rattle.std.specs.List.Sorted.{IsBinarySearchResult, IsNonDecreasingBy}
use Rattle.std.specs.Ordering.{is_lt, ordering_index, ordering_reverse}
use Rattle.zarrs_path.specs.Paths.{Path, path_cmp, IsBelow}
use Rattle.zarrs_path.specs.PathOrder.{path_total}
use Rattle.zarrs_meaning.specs.declared.node_create_error.NodeCreateError.{NodeCreateError}
use Rattle.zarrs_path.proofs.LawProofs.{equal_order}
use Rattle.zarrs_node.proofs.KeptOfLists.{below_later, between_below}
use Rattle.zarrs_check.specs.Apart.{AreApart}
use Rattle.zarrs_check.specs.Findings.{IsSpoilt}
use Rattle.zarrs_check.proofs.Above.{at_itself, at_or_above, up_cases}

-- paths with what is bad there
abbrev pub Bad : Type 0
Bad = List (Path × NodeCreateError)

-- the paths of the list
abbrev pub IsBadAt : Bad → Path → Type 0
IsBadAt ds q = (e : NodeCreateError) × Contains ds (q, e)

module _ {A : Type 0} where
  -- compared with one path, paths in their order rise, as halving asks
  rises : (ds : List (Path × A)) → AllPairs (λ d e. path_cmp d.0 e.0 ≡ Less) ds → (p : Path) → IsNonDecreasingBy (λ d. ordering_index (path_cmp d.0 p)) ds
  rises ds ascend p = searchable_from_sorted path_total (λ (d : Path × A). d.0) ds p
      (λ k d a b. let up = ascend k (k + 1) d (omega arith) b in ap is_lt (path_total.antisymm (get_or ds (k + 1) d).0 (get_or ds k d).0 ∙ ap ordering_reverse up))

  -- p would stand at the gap: each path before it is smaller, and each from there on is greater
  pub record IsGap (ds : List (Path × A)) (p : Path) (gap : ℕ) : Type 0 where
    pub inside : gap ≤ length ds
    pub smaller : AllWithin (λ d. path_cmp d.0 p ≡ Less) ds 0 gap
    pub greater : AllWithin (λ d. path_cmp d.0 p ≡ Greater) ds gap (length ds)

  -- where halving ends without the path there is such a gap
  pub gap_of : (ds : List (Path × A)) → AllPairs (λ d e. path_cmp d.0 e.0 ≡ Less) ds → (p : Path) (gap : ℕ) → gap ≤ length ds → IsBinarySearchResult (λ d. path_cmp d.0 p) ds (Err gap) → IsGap ds p gap
  gap_of ds ascend p gap inside parted = let h = parted (rises ds ascend p) in record { inside = inside; smaller = h.0; greater = h.1 }

-- some item of a list that has one
some_item : (ds : Bad) (i : ℕ) → i < length ds → Path × NodeCreateError
some_item [] i inside = absurd (omega (arith, inside))
some_item (d ∷ ds) i inside = d

-- a path of the list spoils itself
pub spoilt_at : (xs ds : Bad) → xs ≡ ds → (p : Path) (i : ℕ) → i < length xs → HoldsAt (λ d. path_cmp d.0 p ≡ Equal) xs i → IsSpoilt (IsBadAt ds) p
spoilt_at xs ds same p i inside level =
    let d = get_or xs i (some_item xs i inside) in
    let in' : Contains xs (d.0, d.1) = Contains-get_or xs i (some_item xs i inside) inside in
    (d.0, (d.1, subst (λ l. Contains l (d.0, d.1)) same in'), at_itself d.0 p (sym ((equal_order d.0 p).0 (level (some_item xs i inside)))))

-- and the paths below it
pub spoilt_below : (ds : Bad) (p : Path) (i : ℕ) → i < length ds → HoldsAt (λ d. IsBelow d.0 p) ds i → IsSpoilt (IsBadAt ds) p
spoilt_below ds p i inside low =
    let d = get_or ds i (some_item ds i inside) in
    (d.0, (d.1, Contains-get_or ds i (some_item ds i inside) inside), at_or_above d.0 p (low (some_item ds i inside)))

-- and so it is among paths of which none is below another
pub gap_missed : (xs ds : Bad) → xs ≡ ds → AreApart ds → (p : Path) (gap : ℕ) → gap ≤ length xs → IsBinarySearchResult (λ d. path_cmp d.0 p) xs (Err gap) → IsGap ds p gap
gap_missed xs ds same apart p gap inside parted =
    let apart' = subst AreApart (sym same) apart in
    subst (λ l. IsGap l p gap) same (gap_of xs (λ i j d l m. (apart' i j d l m).0) p gap inside parted)

module _ (ds : Bad) (apart : AreApart ds) (p : Path) (gap : ℕ) (at : IsGap ds p gap) where
  -- a path of the list that is not after p stands before the gap
  early : (k : ℕ) (d : Path × NodeCreateError) → k < length ds → (path_cmp (get_or ds k d).0 p ≡ Greater → ⊥) → k < gap
  early k d inside other = ⊎_elim (λ lt. lt) (λ le. absurd (other (at.greater k d le inside))) (cases_lt k gap)

  -- one that p is below stands just before the gap, for what stands between is below it too
  last_early : (k : ℕ) (d : Path × NodeCreateError) → k < length ds → IsBelow (get_or ds k d).0 p → suc k ≡ gap
  last_early k d inside low =
      let less = below_later (get_or ds k d).0 p low in
      let lt = early k d inside (λ e. cc) in
      ⊎_elim (λ e. e)
      (λ between.
      let j : ℕ = gap - 1 in
      let k_j : k < j = omega arith in
      let j_gap : j < gap = omega arith in
      let h = apart k j d k_j (omega (arith, at.inside)) in
      absurd (h.1 (between_below (get_or ds k d).0 (get_or ds j d).0 p h.0 (at.smaller j d (omega arith) j_gap) low)))
      (eq-or-lt_of_le lt)

  -- so the only path at or above p is the one just before the gap
  pub just_before : IsSpoilt (IsBadAt ds) p → (0 < gap) × HoldsAt (λ d. IsBelow d.0 p) ds (gap - 1)
  just_before s =
      let e : Path × NodeCreateError = (s.0, s.1.0) in
      let k : ℕ = s.1.1.0 in
      let inside : k < length ds = s.1.1.1 in
      let is : (get_or ds k e).0 ≡ s.0 = ap (λ x. x.0) s.1.1.2 in
      ⊎_elim
      (λ same.
      let level : path_cmp (get_or ds k e).0 p ≡ Equal = (equal_order (get_or ds k e).0 p).1 (is ∙ sym same) in
      let lt = early k e inside (λ f. cc) in
      let less = at.smaller k e (omega arith) lt in
      absurd (cc))
      (λ low.
      let low' : IsBelow (get_or ds k e).0 p = subst (λ q. IsBelow q p) (sym is) low in
      let next = last_early k e inside low' in
      let there : k ≡ gap - 1 = omega arith in
      (omega arith, λ d. subst (λ x. IsBelow x.0 p) (get_or_default ds k e d inside ∙ ap (λ i. get_or ds i d) there) low'))
      (up_cases s.0 p s.2)

  -- and p is below that one exactly where some path is at or above p
  pub before_gap : 0 < gap → (x : Path × NodeCreateError) → x ≡ get_or ds (gap - 1) x → IsBelow x.0 p ↔ IsSpoilt (IsBadAt ds) p
  before_gap some x is =
      let inside : gap - 1 < length ds = omega (arith, at.inside) in (
        λ low. spoilt_below ds p (gap - 1) inside (λ d. subst (λ y. IsBelow y.0 p) (get_or_read ds (gap - 1) x inside is d) low),
        λ s. subst (λ y. IsBelow y.0 p) (sym is) ((just_before s).1 x),
      )
