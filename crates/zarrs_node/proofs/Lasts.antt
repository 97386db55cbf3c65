-- Of sorted pairs with one path the last.
use Rattle.std.proofs.Common.{◌≡◌, ℕ, ◌-◌, ◌<◌, take, ◌⊎◌, inl, inr, ⊎_elim, ◌↔◌, Bool, true, false, not, ◌&&◌, cond, List, [], ◌∷◌, ◌++◌, length, get_or, refl, sym, ap, subst, ◌∙◌, append-nil, arith, Contains, AllPairs, Less, Equal, Greater, true≢false, is_eq}
use Rattle.std.specs.List.{filter}
use Rattle.std.specs.Ordering.{is_lt, ordering_reverse}
use Rattle.std.specs.List.Sorted.{IsSortedBy, IsStableBy, ties}
use Rattle.std.proofs.lemmas.List.Elements.{Contains-append_left, Contains-push, Contains-push_cases, filter-append, filter_agree}
use Rattle.std.proofs.lemmas.List.{same_from_push}
use Rattle.std.specs.FinMap.{slice_cmp-IsAntisymmetric, nat_cmp-IsAntisymmetric, IsAntisymmetric}
use Rattle.zarrs_path.specs.Paths.{Path, path_cmp, path_eq}
use Rattle.zarrs_path.specs.PathOrder.{path_decides, path_ties, path_total}
use Rattle.zarrs_block.proofs.InOrder.{before, sorted_pairs}
use Rattle.zarrs_node.proofs.Unique.{Pair}
use Rattle.zarrs_node.specs.LastOfEqualPaths.{IsLatest}
use Rattle.zarrs_node.specs.Order.{Ascend}
use Rattle.zarrs_node.specs.StepsOfTrees.{DropsEqual}
use Rattle.zarrs_node.proofs.ListedItems.{all_pairs_append, all_pairs_tail, all_pairs_first}
use Rattle.zarrs_node.proofs.walk.Child.{contains_one}
use Rattle.zarrs_node.proofs.OpenGroups.{last_part}
use Rattle.zarrs_node.proofs.ForestsBeside.{Contains-first, Contains-cons}
use Rattle.zarrs_node.proofs.Order.{one_ascends, contains_cases}
use Rattle.zarrs_node.proofs.Unique.{names_irrefl}
use Rattle.zarrs_node.proofs.KeptOfLists.{all_pairs_across}

-- v has, of the pairs gone over, the last with each path, ascending
pub record KeepsLast (done v : List Pair) : Type 0 where
  pub ascends : Ascend v
  pub latest : (e : Pair) → Contains v e ↔ IsLatest done e

-- a path equals itself
names_itself : (p : Path) → path_eq p p ≡ true
names_itself p = (path_decides p p).1 refl

-- a later path is another
differ : (p q : Path) → path_cmp p q ≡ Less → path_eq q p ≡ false
differ p q less = elim (path_eq q p) as (λ t. path_eq q p ≡ t → t ≡ false) [
  | true ↦ λ is. absurd (names_irrefl p (ap (path_cmp p) (sym ((path_decides q p).0 is)) ∙ less))
  | false ↦ λ is. refl
] refl

-- one pair more
filter_more : (done : List Pair) (e d : Pair) → filter (λ x. path_eq x.0 d.0) (done ++ e ∷ []) ≡ filter (λ x. path_eq x.0 d.0) done ++ cond (path_eq e.0 d.0) (e ∷ []) []
filter_more done e d = filter-append (λ x. path_eq x.0 d.0) done (e ∷ [])

-- the last pair of a list is the last with its path
pub latest_last : (done : List Pair) (e : Pair) → IsLatest (done ++ e ∷ []) e
latest_last done e = (filter (λ x. path_eq x.0 e.0) done, filter_more done e e ∙ ap (λ t. filter (λ x. path_eq x.0 e.0) done ++ cond t (e ∷ []) []) (names_itself e.0))

-- a pair behind with another path leaves the last of a path the last
pub latest_keep : (done : List Pair) (e d : Pair) → path_eq e.0 d.0 ≡ false → IsLatest done d → IsLatest (done ++ e ∷ []) d
latest_keep done e d other h = (h.0, filter_more done e d ∙ ap (λ t. filter (λ x. path_eq x.0 d.0) done ++ cond t (e ∷ []) []) other ∙ append-nil (filter (λ x. path_eq x.0 d.0) done) ∙ h.1)

-- the last with its path in a list with one pair more is that pair, or it was the last before
pub latest_push : (done : List Pair) (e d : Pair) → IsLatest (done ++ e ∷ []) d → (e ≡ d) ⊎ ((path_eq e.0 d.0 ≡ false) × IsLatest done d)
latest_push done e d h =
    let kept : List Pair = filter (λ x. path_eq x.0 d.0) done in
    elim (path_eq e.0 d.0) as (λ t. path_eq e.0 d.0 ≡ t → kept ++ cond t (e ∷ []) [] ≡ h.0 ++ d ∷ [] → (e ≡ d) ⊎ ((path_eq e.0 d.0 ≡ false) × IsLatest done d)) [
      | true ↦ λ is same. inl (same_from_push kept h.0 e d same).1
      | false ↦ λ is same. inr (is, (h.0, sym (append-nil kept) ∙ same))
    ] refl (sym (filter_more done e d) ∙ h.1)

-- what a filter keeps was there
pub contains_filtered : {A : Type 0} (p : A → Bool) (xs : List A) (x : A) → Contains (filter p xs) x → Contains xs x
contains_filtered p [] x h = h
contains_filtered p (y ∷ xs) x h =
    elim (p y) as (λ t. Contains (cond t (y ∷ filter p xs) (filter p xs)) x → Contains (y ∷ xs) x) [
      | true ↦ λ k. ⊎_elim (λ e. subst (Contains (y ∷ xs)) e (Contains-first y xs)) (λ l. Contains-cons y xs x (contains_filtered p xs x l)) (contains_cases y (filter p xs) x k)
      | false ↦ λ k. Contains-cons y xs x (contains_filtered p xs x k)
    ] h

-- the last with its path is in the list
pub latest_in : (done : List Pair) (d : Pair) → IsLatest done d → Contains done d
latest_in done d h = contains_filtered (λ x. path_eq x.0 d.0) done d (subst (λ l. Contains l d) (sym h.1) (Contains-push h.0 d))

-- paths that are level are equal
pub names_antisymmetric : IsAntisymmetric path_cmp
names_antisymmetric = slice_cmp-IsAntisymmetric (slice_cmp-IsAntisymmetric nat_cmp-IsAntisymmetric)

-- what is not later is earlier or the same
not_later : (p q : Path) → is_lt (path_cmp q p) ≡ false → (path_cmp p q ≡ Less) ⊎ (p ≡ q)
not_later p q h =
    elim (path_cmp q p) as (λ o. path_cmp q p ≡ o → is_lt o ≡ false → (path_cmp p q ≡ Less) ⊎ (p ≡ q)) [
      | Less ↦ λ e f. absurd (true≢false f)
      | Equal ↦ λ e f. inr (sym (names_antisymmetric q p e))
      | Greater ↦ λ e f. inl (path_total.antisymm p q ∙ ap ordering_reverse e)
    ] refl h

-- what holds between the items of two lists in a row holds between those of the first
all_pairs_front : {A : Type 0} (R : A → A → Type 0) (xs ys : List A) → AllPairs R (xs ++ ys) → AllPairs R xs
all_pairs_front R [] ys q = λ i j d l m. absurd (omega (arith, m))
all_pairs_front R (x ∷ xs) ys q = all_pairs_append R (x ∷ []) xs (λ i j d l m. absurd (omega (arith, l, m))) (all_pairs_front R xs ys (all_pairs_tail R x (xs ++ ys) q))
    (λ u v hu hv. subst (λ z. R z v) (contains_one x u hu) (all_pairs_first R x (xs ++ ys) q v (Contains-append_left xs ys v hv)))

-- a list is empty, or has a last item
pub snoc_cases : {A : Type 0} (xs : List A) → (xs ≡ []) ⊎ ((front : List A) × (l : A) × (xs ≡ front ++ l ∷ []))
snoc_cases [] = inl refl
snoc_cases (x ∷ xs) = inr (⊎_elim (λ e. ([], x, ap (λ l. x ∷ l) e)) (λ w. (x ∷ w.0, w.1, ap (λ l. x ∷ l) w.2)) (snoc_cases xs))

module _ (done v w : List Pair) (e : Pair) (k : KeepsLast done v) (sorted : (d : Pair) → Contains done d → is_lt (path_cmp e.0 d.0) ≡ false) where
  -- what stays is before e
  stays_before : DropsEqual e.0 v w → (x : Pair) → Contains w x → Contains v x × (path_cmp x.0 e.0 ≡ Less)
  stays_before (inl (l, parts, same)) x in' =
      let up = subst Ascend parts k.ascends in (
        subst (λ y. Contains y x) (sym parts) (Contains-append_left w (l ∷ []) x in'),
        ap (path_cmp x.0) (sym same) ∙ all_pairs_across (λ d f. path_cmp d.0 f.0 ≡ Less) w (l ∷ []) up x l in' (Contains-first l []),
      )
  stays_before (inr (same, none)) x in' =
      let inside = subst (λ y. Contains y x) (sym same) in' in
      (inside, ⊎_elim (λ empty. absurd (no_member empty inside)) (λ s. by_last s.0 s.1 s.2 inside) (snoc_cases v))
    where
      no_member : v ≡ [] → Contains v x → ⊥
      no_member empty h = let h' = subst (λ y. Contains y x) empty h in omega (arith, h'.1)

      last_before : (front : List Pair) (l : Pair) → v ≡ front ++ l ∷ [] → path_cmp l.0 e.0 ≡ Less
      last_before front l parts = ⊎_elim (λ less. less) (λ eq. absurd (none front l parts eq))
          (not_later l.0 e.0 (sorted l (latest_in done l ((k.latest l).0 (subst (λ y. Contains y l) (sym parts) (Contains-push front l))))))

      by_last : (front : List Pair) (l : Pair) → v ≡ front ++ l ∷ [] → Contains v x → path_cmp x.0 e.0 ≡ Less
      by_last front l parts h = ⊎_elim
          (λ f. path_total.trans x.0 l.0 e.0 (all_pairs_across (λ d f. path_cmp d.0 f.0 ≡ Less) front (l ∷ []) (subst Ascend parts k.ascends) x l f (Contains-first l [])) (last_before front l parts))
          (λ same. subst (λ y. path_cmp y.0 e.0 ≡ Less) same (last_before front l parts))
          (Contains-push_cases front l x (subst (λ y. Contains y x) parts h))

  -- what has another path stays
  other_stays : DropsEqual e.0 v w → (d : Pair) → Contains v d → path_eq e.0 d.0 ≡ false → Contains w d
  other_stays (inl (l, parts, same)) d h other = ⊎_elim (λ f. f)
      (λ is. absurd (true≢false (sym ((path_decides e.0 d.0).1 (sym same ∙ ap (λ y. y.0) is)) ∙ other)))
      (Contains-push_cases w l d (subst (λ y. Contains y d) parts h))
  other_stays (inr (same, none)) d h other = subst (λ y. Contains y d) same h

  -- what stays ascends
  front_ascends : DropsEqual e.0 v w → Ascend w
  front_ascends (inl (l, parts, same)) = all_pairs_front (λ d f. path_cmp d.0 f.0 ≡ Less) w (l ∷ []) (subst Ascend parts k.ascends)
  front_ascends (inr (same, none)) = subst Ascend same k.ascends

  -- one turn keeps it
  pub keeps_turn : DropsEqual e.0 v w → KeepsLast (done ++ e ∷ []) (w ++ e ∷ [])
  keeps_turn drops = record {
    ascends = all_pairs_append (λ d f. path_cmp d.0 f.0 ≡ Less) w (e ∷ []) (front_ascends drops) (one_ascends e)
        (λ x y hx hy. subst (λ z. path_cmp x.0 z.0 ≡ Less) (contains_one e y hy) (stays_before drops x hx).1);
    latest = λ d. (
      λ h. ⊎_elim
          (λ f. let s = stays_before drops d f in latest_keep done e d (differ d.0 e.0 s.1) ((k.latest d).0 s.0))
          (λ is. subst (IsLatest (done ++ e ∷ [])) is (latest_last done e))
          (Contains-push_cases w e d h),
      λ h. ⊎_elim
          (λ is. subst (Contains (w ++ e ∷ [])) is (Contains-push w e))
          (λ s. Contains-append_left w (e ∷ []) d (other_stays drops d ((k.latest d).1 s.1) s.0))
          (latest_push done e d h),
    );
  }

-- pairs tie where their paths are equal
pub ties_same : (x y : Pair) → ties (λ x y. is_lt (path_cmp x.0 y.0)) x y ≡ path_eq y.0 x.0
ties_same x y =
    ap (λ o. not (is_lt o) && not (is_lt (path_cmp y.0 x.0))) (path_total.antisymm x.0 y.0)
    ∙ elim (path_cmp y.0 x.0) as (λ o. (not (is_lt (ordering_reverse o)) && not (is_lt o)) ≡ is_eq o) [ Less ↦ refl | Equal ↦ refl | Greater ↦ refl ]
    ∙ sym (path_ties y.0 x.0)

-- a stable sort leaves the last of each path the last
pub latest_stable : (xs ys : List Pair) → IsStableBy (λ x y. is_lt (path_cmp x.0 y.0)) xs ys → (e : Pair) → IsLatest ys e ↔ IsLatest xs e
latest_stable xs ys stable e =
    let same : filter (λ d. path_eq d.0 e.0) ys ≡ filter (λ d. path_eq d.0 e.0) xs =
    sym (filter_agree (ties (λ x y. is_lt (path_cmp x.0 y.0)) e) (λ d. path_eq d.0 e.0) (ties_same e) ys) ∙ stable e ∙ filter_agree (ties (λ x y. is_lt (path_cmp x.0 y.0)) e) (λ d. path_eq d.0 e.0) (ties_same e) xs in
    (λ h. (h.0, sym same ∙ h.1), λ h. (h.0, same ∙ h.1))

-- one turn over sorted pairs
pub all_sorted : (all done items left : List Pair) (e : Pair) → IsSortedBy before all → done ++ items ≡ all → items ≡ e ∷ left → (d : Pair) → Contains done d → is_lt (path_cmp e.0 d.0) ≡ false
all_sorted all done items left e up is next d in' =
    all_pairs_across (λ d e. is_lt (path_cmp e.0 d.0) ≡ false) done (e ∷ left) (subst (AllPairs (λ d e. is_lt (path_cmp e.0 d.0) ≡ false)) (sym is ∙ ap (λ x. done ++ x) next) (sorted_pairs all up)) d e in' (Contains-first e left)

-- the last pair, taken away or not
module _ (p : Path) (xs : List Pair) (l : Pair) (some : 0 < length xs) (is : l ≡ get_or xs (length xs - 1) l) where
  -- the list is all before the last pair, and that
  at_end : xs ≡ take (length xs - 1) xs ++ l ∷ []
  at_end = last_part xs l some ∙ ap (λ y. take (length xs - 1) xs ++ y ∷ []) (sym is)

  -- the last pair has the path and goes
  pub drops_last : (ys : List Pair) (n : ℕ) → n ≡ length xs → ys ≡ take (n - 1) xs → path_eq l.0 p ≡ true → DropsEqual p xs ys
  drops_last ys n long rest same = inl (l, at_end ∙ ap (λ k. take (k - 1) xs ++ l ∷ []) (sym long) ∙ ap (λ y. y ++ l ∷ []) (sym rest), (path_decides l.0 p).0 same)

  -- or has another, and all stay
  pub drops_none : path_eq l.0 p ≡ false → DropsEqual p xs xs
  drops_none other = inr (refl, λ front e parts same. true≢false (sym ((path_decides l.0 p).1 (ap (λ y. y.0) (same_from_push (take (length xs - 1) xs) front l e (sym at_end ∙ parts)).1 ∙ same)) ∙ other))

-- after all pairs, what was kept is the last of each path of those given
pub latest_all : (pairs sorted all done items v : List Pair) → all ≡ sorted → done ++ items ≡ all → items ≡ [] → KeepsLast done v → IsStableBy before pairs sorted → (e : Pair) → Contains v e ↔ IsLatest pairs e
latest_all pairs sorted all done items v gives is none_more k stable e =
    let done_all : done ≡ sorted = sym (append-nil done) ∙ ap (λ x. done ++ x) (sym none_more) ∙ is ∙ gives in
    let same = latest_stable pairs sorted stable e in
    let kept = k.latest e in
    (λ h. same.0 (subst (λ l. IsLatest l e) done_all (kept.0 h)), λ h. kept.1 (subst (λ l. IsLatest l e) (sym done_all) (same.1 h)))
