-- Places in a list of blocks: those at which a node was compared, one after another.
use Rattle.std.specs.Option.{option_to_list}
use Rattle.std.proofs.Common.{Option, Some, append_assoc, ◌-◌, ◌≡◌, ◌⊎◌, inl, inr, ⊎_elim, ◌+◌, ◌<◌, ◌≤◌, ℕ, List, [], ◌∷◌, ◌++◌, get_or, set, length, refl, sym, ap, subst, ◌∙◌, arith, Contains}
use Rattle.std.proofs.lemmas.Bool.Decides.{eqb_tells}
use Rattle.std.proofs.lemmas.Grind.{get_or_default_zero}
use Rattle.std.proofs.lemmas.List.{get_or-set_same, get_or-set_other, get_or_push, length-set, length_push}
use Rattle.zarrs_node.proofs.ForestsBeside.{Contains-first, Contains-cons}
use Rattle.zarrs_node.proofs.Order.{contains_cases}
use Rattle.zarrs_meaning.specs.Meaning.{Pair}
use Rattle.zarrs_check.specs.StepsOfComparisons.{IsNextBelow}
use Rattle.zarrs_check.specs.StepsOfTaking.{PlacesAscend, AreCompared}
use Rattle.zarrs_check.specs.declared.comparison.Comparison.{Comparison}

-- whether a place is one of them
pub in_or_not : (js : List ℕ) (j : ℕ) → Contains js j ⊎ (Contains js j → ⊥)
in_or_not [] j = inr (λ h. omega (arith, h.1))
in_or_not (i ∷ js) j = ⊎_elim
    (λ same. inl (subst (Contains (i ∷ js)) same.1 (Contains-first i js)))
    (λ other. ⊎_elim
    (λ h. inl (Contains-cons i js j h))
    (λ none. inr (λ h. ⊎_elim (λ is. other.1 is) none (contains_cases i js j h)))
    (in_or_not js j))
    (eqb_tells i j)

-- with the blocks at the first i of the places the node was compared
pub record IsPartly (js : List ℕ) (i : ℕ) (e : Pair) (old new : List Comparison) : Type 0 where
  pub size : length new ≡ length old
  pub done : (a : ℕ) (d : Comparison) → a < i → get_or js a 0 < length old → IsNextBelow (get_or old (get_or js a 0) d) e (get_or new (get_or js a 0) d)
  pub others : (j : ℕ) (d : Comparison) → ((a : ℕ) → a < i → get_or js a 0 ≡ j → ⊥) → get_or new j d ≡ get_or old j d

-- at first nothing was
pub partly_none : (js : List ℕ) (e : Pair) (old : List Comparison) → IsPartly js 0 e old old
partly_none js e old = record { size = refl; done = λ a d lt. absurd (omega (arith, lt)); others = λ j d none. refl }

module _ (js : List ℕ) (up : PlacesAscend js) (i : ℕ) (e : Pair) (old new : List Comparison) (within : i < length js) (h : IsPartly js i e old new) where
  -- no place before is this one
  earlier : (a : ℕ) → a < i → get_or js a 0 ≡ get_or js i 0 → ⊥
  earlier a lt same = let less = up a i 0 lt within in omega (arith, less, same)

  -- so the block there is as it was
  still : (d : Comparison) → get_or new (get_or js i 0) d ≡ get_or old (get_or js i 0) d
  still d = h.others (get_or js i 0) d earlier

  -- with the block at the next place too
  pub partly_more : (c : Comparison) → get_or js i 0 < length new → ((d : Comparison) → IsNextBelow (get_or new (get_or js i 0) d) e c) → IsPartly js (i + 1) e old (set new (get_or js i 0) c)
  partly_more c inside next = record {
    size = length-set new (get_or js i 0) c ∙ h.size;
    done = λ a d lt in'. ⊎_elim
        (λ same. subst (λ j. IsNextBelow (get_or old j d) e (get_or (set new (get_or js i 0) c) j d)) (sym (ap (λ x. get_or js x 0) same.1))
        (subst (IsNextBelow (get_or old (get_or js i 0) d) e) (sym (get_or-set_same new (get_or js i 0) c d inside)) (subst (λ x. IsNextBelow x e c) (still d) (next d))))
        (λ other.
        let before : a < i = let n = other.1 in omega (arith, lt, n) in
        subst (IsNextBelow (get_or old (get_or js a 0) d) e) (sym (get_or-set_other new (get_or js i 0) (get_or js a 0) c d (earlier a before))) (h.done a d before in'))
        (eqb_tells a i);
    others = λ j d none.
        get_or-set_other new (get_or js i 0) j c d (λ is. none i (omega (arith)) (sym is))
        ∙ h.others j d (λ a lt. none a (omega (arith, lt)));
  }

  -- no block is at it
  pub partly_past : (get_or js i 0 < length new → ⊥) → IsPartly js (i + 1) e old new
  partly_past outside = record {
    size = h.size;
    done = λ a d lt in'. ⊎_elim
        (λ same. absurd (outside (let at = ap (λ x. get_or js x 0) same.1 in let s = h.size in omega (arith, in', at, s))))
        (λ other. h.done a d (let n = other.1 in omega (arith, lt, n)) in')
        (eqb_tells a i);
    others = λ j d none. h.others j d (λ a lt. none a (omega (arith, lt)));
  }

-- at last with the blocks at all places
pub partly_all : (js : List ℕ) (i : ℕ) (e : Pair) (old new : List Comparison) → length js ≤ i → i ≤ length js → IsPartly js i e old new → AreCompared js e old new
partly_all js i e old new all within h = record {
  size = h.size;
  at_places = λ j d in' inside.
      let at : get_or js in'.0 0 ≡ j = sym (get_or_default_zero js in'.0 j in'.1) ∙ in'.2 in
      subst (λ x. IsNextBelow (get_or old x d) e (get_or new x d)) at (h.done in'.0 d (let lt = in'.1 in omega (arith, all, lt)) (subst (λ x. x < length old) (sym at) inside));
  others = λ j d none. h.others j d (λ a lt is.
      let in' : a < length js = omega (arith, lt, within) in
      none (a, in', get_or_default_zero js a j in' ∙ is));
}

-- ---- places that go

-- the last place, where it was taken off
pub popped : (xs ys : List ℕ) (r : Option ℕ) (x : ℕ) → xs ≡ ys ++ option_to_list r → r ≡ Some x → xs ≡ ys ++ x ∷ []
popped xs ys r x is at = is ∙ ap (λ o. ys ++ option_to_list o) at

-- goes in front of those that went
pub more_gone : (all xs ys gone : List ℕ) (x : ℕ) → all ≡ xs ++ gone → xs ≡ ys ++ x ∷ [] → all ≡ ys ++ x ∷ gone
more_gone all xs ys gone x is at = is ∙ (ap (λ zs. zs ++ gone) at ∙ append_assoc ys (x ∷ []) gone)

-- the last place is what was taken off
pub last_popped : (xs : List ℕ) (n : ℕ) (r : Option ℕ) (x : ℕ) → n ≡ length xs → 0 < n → ((d : ℕ) → 0 < n → r ≡ Some (get_or xs (n - 1) d)) → x ≡ get_or xs (length xs - 1) x → r ≡ Some x
last_popped xs n r x size some value at = value x some ∙ ap (λ y. Some y) (ap (λ m. get_or xs (m - 1) x) size ∙ sym at)

-- what is read as the last place is the last
pub last_is : (xs is : List ℕ) (j x : ℕ) → xs ≡ is ++ j ∷ [] → x ≡ get_or xs (length xs - 1) x → j ≡ x
last_is xs is j x whole at =
    let long = length_push is j in
    let size = ap length whole in
    sym (at ∙ (ap (λ ys. get_or ys (length xs - 1) x) whole ∙ get_or_push is j x (length xs - 1) (omega (arith, long, size))))
