-- Subtrees that stand one before the other, and lists turned round.
use Rattle.std.proofs.Common.{◌≡◌, ℕ, ◌<◌, ⊎_elim, List, [], ◌∷◌, ◌++◌, length, get_or, map, reverse, sym, ap, subst, ◌∙◌, append_assoc, arith, Contains, AllPairs, Less}
use Rattle.std.proofs.lemmas.List.{reverse-append, get_or-map, length-map}
use Rattle.std.proofs.lemmas.List.Elements.{Contains-push, Contains-append_left, Contains-append_right, Contains-append_cases}
use Rattle.zarrs_path.specs.Paths.{Path, path_cmp}
use Rattle.zarrs_store.specs.Contents.{Contents}
use Rattle.zarrs_store.specs.Segments.{Segments, bytes_cmp, last_segment}
use Rattle.zarrs_store.specs.Children.{AreVisibleChildren}
use Rattle.zarrs_store.proofs.Below.{child_is, children_are}
use Rattle.zarrs_node.proofs.Order.{contains_cases, later_less}
use Rattle.zarrs_node.proofs.ListedItems.{all_pairs_append, all_pairs_tail, all_pairs_first}

-- p with all below it stands before q with all below it: both begin alike, and then p has the earlier name
pub record StandsBefore (p q : Path) : Type 0 where
  pub base : Path
  pub name : List ℕ
  pub later : List ℕ
  pub rest : Path
  pub more : Path
  pub first : p ≡ base ++ name ∷ rest
  pub second : q ≡ base ++ later ∷ more
  pub less : bytes_cmp name later ≡ Less

-- then p is before q
pub stands_less : (p q : Path) → StandsBefore p q → path_cmp p q ≡ Less
stands_less p q h = later_less h.base p q h.name h.later h.rest h.more h.first h.second h.less

-- and so is what is below p
pub stands_below : (p q t : Path) → StandsBefore p q → StandsBefore (p ++ t) q
stands_below p q t h = record {
  base = h.base;
  name = h.name;
  later = h.later;
  rest = h.rest ++ t;
  more = h.more;
  first = ap (λ x. x ++ t) h.first ∙ append_assoc h.base (h.name ∷ h.rest) t;
  second = h.second;
  less = h.less;
}

-- ---- lists turned round

-- the last of a list with one item more in front is that of the list
reverse_cons : {A : Type 0} (x : A) (xs : List A) → reverse (x ∷ xs) ≡ reverse xs ++ x ∷ []
reverse_cons x xs = reverse-append (x ∷ []) xs

-- what is in a list turned round is in the list
pub turned_in : {A : Type 0} (xs : List A) (y : A) → Contains (reverse xs) y → Contains xs y
turned_in [] y h = h
turned_in (x ∷ xs) y h =
    ⊎_elim (λ l. Contains-append_right (x ∷ []) xs y (turned_in xs y l)) (λ l. Contains-append_left (x ∷ []) xs y l)
    (Contains-append_cases (reverse xs) (x ∷ []) y (subst (λ l. Contains l y) (reverse_cons x xs) h))

-- what is in a list is in the list turned round
pub in_turned : {A : Type 0} (xs : List A) (y : A) → Contains xs y → Contains (reverse xs) y
in_turned [] y h = h
in_turned (x ∷ xs) y h = subst (λ l. Contains l y) (sym (reverse_cons x xs)) (⊎_elim
    (λ same. subst (Contains (reverse xs ++ x ∷ [])) same (Contains-push (reverse xs) x))
    (λ l. Contains-append_left (reverse xs) (x ∷ []) y (in_turned xs y l))
    (contains_cases x xs y h))

module _ {A : Type 0} (R : A → A → Type 0) where
  -- what holds between an item and each later one holds the other way round of the list turned round
  pub turned_pairs : (xs : List A) → AllPairs R xs → AllPairs (λ x y. R y x) (reverse xs)
  turned_pairs [] h = λ i j d l m. absurd (omega (arith, m))
  turned_pairs (x ∷ xs) h = subst (AllPairs (λ y z. R z y)) (sym (reverse_cons x xs))
      (all_pairs_append (λ y z. R z y) (reverse xs) (x ∷ []) (turned_pairs xs (all_pairs_tail R x xs h)) (λ i j d l m. absurd (omega (arith, l, m)))
      (λ y z hy hz. ⊎_elim (λ same. subst (λ w. R w y) same (all_pairs_first R x xs h y (turned_in xs y hy))) (λ l. absurd (omega (arith, l.1))) (contains_cases x [] z hz)))

  -- what holds between an item and each later one holds between each item and the last
  pub all_pairs_last : (xs : List A) (y : A) → AllPairs R (xs ++ y ∷ []) → (x : A) → Contains xs x → R x y
  all_pairs_last [] y h x l = absurd (omega (arith, l.1))
  all_pairs_last (z ∷ xs) y h x l = ⊎_elim
      (λ same. subst (λ w. R w y) same (all_pairs_first R z (xs ++ y ∷ []) h y (Contains-push xs y)))
      (λ later. all_pairs_last xs y (all_pairs_tail R z (xs ++ y ∷ []) h) x later)
      (contains_cases z xs x l)

  -- and between the items before the last
  pub all_pairs_front : (xs : List A) (y : A) → AllPairs R (xs ++ y ∷ []) → AllPairs R xs
  all_pairs_front [] y h = λ i j d l m. absurd (omega (arith, m))
  all_pairs_front (z ∷ xs) y h = all_pairs_append R (z ∷ []) xs (λ i j d l m. absurd (omega (arith, l, m))) (all_pairs_front xs y (all_pairs_tail R z (xs ++ y ∷ []) h))
      (λ u w hu hw. ⊎_elim (λ same. subst (λ k. R k w) same (all_pairs_first R z (xs ++ y ∷ []) h w (Contains-append_left xs (y ∷ []) w hw))) (λ l. absurd (omega (arith, l.1))) (contains_cases z [] u hu))

-- the discovered children of g stand one before the other
pub children_stand : (s : Contents) (g : Path) (cs : List Segments) → AreVisibleChildren s.values g cs → AllPairs StandsBefore cs
children_stand s g cs h i j d l m =
    let before : i < length cs = omega (arith, l, m) in
    let x = get_or cs i d in
    let y = get_or cs j d in
    let long = length-map cs last_segment in
    let inside : j < length (map last_segment cs) = omega (arith, m, long) in
    let up : bytes_cmp (get_or (map last_segment cs) i (last_segment d)) (get_or (map last_segment cs) j (last_segment d)) ≡ Less = (children_are s.values g cs h).ascending i j (last_segment d) l inside in record {
      base = g;
      name = last_segment x;
      later = last_segment y;
      rest = [];
      more = [];
      first = child_is s.values g x (h.sound i d before);
      second = child_is s.values g y (h.sound j d m);
      less = ap (λ z. bytes_cmp z (last_segment y)) (sym (get_or-map last_segment cs i d (last_segment d) before)) ∙ ap (bytes_cmp (get_or (map last_segment cs) i (last_segment d))) (sym (get_or-map last_segment cs j d (last_segment d) m)) ∙ up;
    }
