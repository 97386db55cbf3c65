-- Nodes in the order of their paths: the group at a path, the place behind it, and the nodes from there on.
use Rattle.std.proofs.Common.{◌≡◌, ◌↔◌, ℕ, ◌<◌, ◌≤◌, ◌+◌, ⊎_elim, List, [], ◌∷◌, ◌++◌, take, drop, length, get_or, sym, ap, subst, ◌∙◌, arith, Contains, Less, Equal, Greater, IsTrue}
use Rattle.std.proofs.Math.Nat.{eq-or-lt_of_le}
use Rattle.std.proofs.lemmas.Bool.{cases_lt}
use Rattle.std.proofs.lemmas.List.{get_or-take, get_or-drop, length-take-le, length-drop}
use Rattle.std.proofs.lemmas.List.Elements.{Contains-get_or}
use Rattle.std.specs.List.{HoldsAt}
use Rattle.zarrs_path.specs.Paths.{Path, path_cmp, IsBelow}
use Rattle.zarrs_path.specs.PathOrder.{path_total}
use Rattle.zarrs_path.proofs.LawProofs.{equal_order}
use Rattle.zarrs_meta.specs.Node.{is_group}
use Rattle.zarrs_node.specs.Order.{Ascend}
use Rattle.zarrs_node.specs.Reach.{HasGroup}
use Rattle.zarrs_node.proofs.KeptOfLists.{below_later, between_below}
use Rattle.zarrs_node.proofs.ListedItems.{all_pairs_first, all_pairs_tail}
use Rattle.zarrs_node.proofs.Order.{contains_cases}
use Rattle.zarrs_node.proofs.Unique.{names_irrefl}
use Rattle.zarrs_meaning.specs.Meaning.{Pair}
use Rattle.zarrs_check.specs.StepsOfComparing.{IsPlaceBehind, StandBehind}
use Rattle.zarrs_check.proofs.Above.{earlier_after}
use Rattle.zarrs_check.proofs.PathSearch.{IsGap}
use Rattle.zarrs_check.proofs.MergedPairs.{only_one}

-- no two paths stand before each other
not_both : (p q : Path) → path_cmp p q ≡ Less → path_cmp q p ≡ Less → ⊥
not_both p q h k = names_irrefl p (path_total.trans p q p h k)

-- the path of a node that halving found
pub found_path : (es : List Pair) (p : Path) (i : ℕ) (d : Pair) → HoldsAt (λ e. path_cmp e.0 p ≡ Equal) es i → (get_or es i d).0 ≡ p
found_path es p i d level = (equal_order (get_or es i d).0 p).0 (level d)

-- ---- the group at a path

-- where halving finds the path, there is a group exactly if the node is one
pub found_group : (es : List Pair) (p : Path) (i : ℕ) (d : Pair) → Ascend es → i < length es → HoldsAt (λ e. path_cmp e.0 p ≡ Equal) es i → IsTrue (is_group (get_or es i d).1) ↔ HasGroup (Contains es) p
found_group es p i d up inside level =
    let x : Pair = get_or es i d in
    let in' : Contains es (p, x.1) = subst (λ q. Contains es (q, x.1)) (found_path es p i d level) (Contains-get_or es i d inside) in (
      λ t. (x.1, in', t),
      λ g. subst (λ m. IsTrue (is_group m)) (only_one path_cmp path_total es up p g.0 x.1 g.1 in') g.2,
    )

-- where it ends at a gap, there is no node
pub missed_group : (es : List Pair) (p : Path) (gap : ℕ) → IsGap es p gap → HasGroup (Contains es) p → ⊥
missed_group es p gap at g =
    let e : Pair = (p, g.0) in
    let k : ℕ = g.1.0 in
    let is : (get_or es k e).0 ≡ p = ap (λ (x : Pair). x.0) g.1.2 in
    ⊎_elim
    (λ lt. names_irrefl p (subst (λ q. path_cmp q p ≡ Less) is (at.smaller k e (omega arith) lt)))
    (λ le. names_irrefl p (earlier_after p p (subst (λ q. path_cmp q p ≡ Greater) is (at.greater k e le g.1.1))))
    (cases_lt k gap)

-- ---- the place behind a path

-- where halving finds the path it is the next
pub behind_found : (es : List Pair) (p : Path) (i : ℕ) → Ascend es → i < length es → HoldsAt (λ e. path_cmp e.0 p ≡ Equal) es i → IsPlaceBehind es p (i + 1)
behind_found es p i up inside level = record {
  inside = omega (arith, inside);
  before = λ k d a lt less.
      let le : k ≤ i = omega (arith, lt) in
      ⊎_elim
      (λ same. names_irrefl p (subst (λ q. path_cmp p q ≡ Less) (ap (λ j. (get_or es j d).0) same ∙ found_path es p i d level) less))
      (λ early. not_both p (get_or es k d).0 less (subst (λ q. path_cmp (get_or es k d).0 q ≡ Less) (found_path es p i d level) (up k i d early inside)))
      (eq-or-lt_of_le le);
  behind = λ k d a lt. subst (λ q. path_cmp q (get_or es k d).0 ≡ Less) (found_path es p i d level) (up i k d (omega (arith, a)) lt);
}

-- and where it ends at a gap it is there
pub behind_missed : (es : List Pair) (p : Path) (gap : ℕ) → IsGap es p gap → IsPlaceBehind es p gap
behind_missed es p gap at = record {
  inside = at.inside;
  before = λ k d a lt less. not_both p (get_or es k d).0 less (at.smaller k d a lt);
  behind = λ k d a lt. earlier_after (get_or es k d).0 p (at.greater k d a lt);
}

-- ---- the nodes before the place, and from there on

module _ (es : List Pair) (p : Path) (n : ℕ) (at : IsPlaceBehind es p n) where
  -- no node before it is below the path
  pub none_before : (e : Pair) → Contains (take n es) e → IsBelow p e.0 → ⊥
  none_before e in' low =
      let long = length-take-le n es at.inside in
      let k : ℕ = in'.0 in
      let lt : k < n = let within = in'.1 in omega (arith, long, within) in
      let is : (get_or es k e).0 ≡ e.0 = ap (λ (x : Pair). x.0) (sym (get_or-take n es k e lt) ∙ in'.2) in
      at.before k e (omega arith) lt (subst (λ q. path_cmp p q ≡ Less) (sym is) (below_later p e.0 low))

  -- each from there on stands behind it
  pub rest_behind : StandBehind p (drop n es)
  rest_behind e in' =
      let long = length-drop n es in
      let k : ℕ = in'.0 in
      let within = in'.1 in
      let inside = at.inside in
      let is : (get_or es (n + k) e).0 ≡ e.0 = ap (λ (x : Pair). x.0) (sym (get_or-drop n es k e) ∙ in'.2) in
      subst (λ q. path_cmp p q ≡ Less) is (at.behind (n + k) e (omega arith) (omega (arith, long, within, inside)))

  -- they ascend
  pub rest_ascends : Ascend es → Ascend (drop n es)
  rest_ascends up i j d l m =
      let long = length-drop n es in
      let inside = at.inside in
      subst (λ (x : Pair). path_cmp x.0 (get_or (drop n es) j d).0 ≡ Less) (sym (get_or-drop n es i d))
      (subst (λ (x : Pair). path_cmp (get_or es (n + i) d).0 x.0 ≡ Less) (sym (get_or-drop n es j d))
      (up (n + i) (n + j) d (omega (arith, l)) (omega (arith, m, long, inside))))

-- behind a node that stands behind the path and is not below it none is below it
pub none_behind : (p : Path) (x : Pair) (es : List Pair) → Ascend (x ∷ es) → path_cmp p x.0 ≡ Less → (IsBelow p x.0 → ⊥) → (e : Pair) → Contains (x ∷ es) e → IsBelow p e.0 → ⊥
none_behind p x es up less out e in' low = ⊎_elim
    (λ same. out (subst (λ (y : Pair). IsBelow p y.0) (sym same) low))
    (λ later. out (between_below p x.0 e.0 less (all_pairs_first (λ (c d : Pair). path_cmp c.0 d.0 ≡ Less) x es up e later) low))
    (contains_cases x es e in')

-- what is left of nodes in their order stands in their order
pub back_ascends : (front back : List Pair) → Ascend (front ++ back) → Ascend back
back_ascends [] back up = up
back_ascends (e ∷ front) back up = back_ascends front back (all_pairs_tail (λ (c d : Pair). path_cmp c.0 d.0 ≡ Less) e (front ++ back) up)
