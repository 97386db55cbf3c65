-- Lists that list what has a property, and what holds between their items.
use Rattle.std.proofs.Common.{suc, ◌≢◌, ◌↔◌, ⊎_elim, List, [], ◌∷◌, ◌++◌, get_or, sym, subst, append_assoc, append-nil, arith, Contains, AllPairs}
use Rattle.std.proofs.lemmas.List.Elements.{Contains-push_cases, Contains-get_or}
use Rattle.std.proofs.lemmas.List.Quantifiers.{all_pairs_push}
use Rattle.zarrs_store.specs.Contents.{Lists}
use Rattle.zarrs_node.proofs.ForestsBeside.{Contains-first, Contains-cons}

module _ {A : Type 0} (R : A → A → Type 0) where
  -- what holds between the items of a list holds between those after the first
  pub all_pairs_tail : (y : A) (ys : List A) → AllPairs R (y ∷ ys) → AllPairs R ys
  all_pairs_tail y ys q i j d l m = q (suc i) (suc j) d (omega arith) (omega arith)

  -- what holds between the items of a list holds between the first and a later one
  pub all_pairs_first : (y : A) (ys : List A) → AllPairs R (y ∷ ys) → (v : A) → Contains ys v → R y v
  all_pairs_first y ys q v (k, lt, e) = subst (λ x. R y x) e (q 0 (suc k) v (omega arith) (omega arith))

  -- what holds within two lists and from the one to the other holds within the two in a row
  pub all_pairs_append : (xs ys : List A) → AllPairs R xs → AllPairs R ys → ((x y : A) → Contains xs x → Contains ys y → R x y) → AllPairs R (xs ++ ys)
  all_pairs_append xs [] p q h = subst (AllPairs R) (sym (append-nil xs)) p
  all_pairs_append xs (y ∷ ys) p q h =
      subst (AllPairs R) (append_assoc xs (y ∷ []) ys)
      (all_pairs_append (xs ++ y ∷ []) ys
      (all_pairs_push R xs y p (λ k d lt. h (get_or xs k d) y (Contains-get_or xs k d lt) (Contains-first y ys)))
      (all_pairs_tail y ys q)
      (λ u v hu hv. ⊎_elim (λ in'. h u v in' (Contains-cons y ys v hv)) (λ e. subst (λ x. R x v) e (all_pairs_first y ys q v hv)) (Contains-push_cases xs y u hu)))

-- what is listed has the property, and what has it is listed
pub listed_each : {A : Type 0} {N : A → Type 0} {xs : List A} → Lists N xs → (x : A) → Contains xs x ↔ N x
listed_each {N = N} l x = (λ h. subst N h.2 (l.sound h.0 x h.1), l.complete x)

-- a list that has exactly the values with the property, each once
pub lists_from : {A : Type 0} {N : A → Type 0} (xs : List A) → ((x : A) → Contains xs x ↔ N x) → AllPairs (λ x y. x ≢ y) xs → Lists N xs
lists_from xs each once = record {
  each_once = once;
  sound = λ i d lt. (each (get_or xs i d)).0 (Contains-get_or xs i d lt);
  complete = λ x. (each x).1;
}
