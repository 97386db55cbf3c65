-- Parts of what is told of a node, each with places of its own, one behind another.
use Rattle.std.proofs.Common.{◌≡◌, ◌↔◌, ◌⊎◌, inl, inr, ⊎_elim, ℕ, suc, ◌<◌, ◌≤◌, Bool, true, false, true≢false, List, [], ◌∷◌, ◌++◌, get_or, refl, sym, subst, arith, Contains, AllPairs, Equal}
use Rattle.std.specs.Cmp.Lexicographic.{nat_list_cmp_total}
use Rattle.std.proofs.lemmas.Cmp.{tied_itself}
use Rattle.std.proofs.lemmas.List.Elements.{Contains-append_cases, Contains-append_left, Contains-append_right, Contains-push_cases, Contains-get_or}
use Rattle.std.proofs.lemmas.List.Kept.{AllPairs-cons}
use Rattle.zarrs_store.specs.Segments.{bytes_cmp}
use Rattle.zarrs_notes.specs.NodeFindings.{ComesBefore, field_of, place_of}
use Rattle.zarrs_notes.specs.StepsOfFindings.{told_if}
use Rattle.zarrs_notes.specs.declared.finding.NodeFinding.{NodeFinding}

-- ---- lists

module _ {A : Type 0} where
  -- no list without items has one
  pub none_in : (y : A) → Contains [] y → ⊥
  none_in y h = omega (arith, h.1)

  -- a list has its first item
  pub first_in : (x : A) (xs : List A) → Contains (x ∷ xs) x
  first_in x xs = (0, omega arith, refl)

  -- and its later ones
  pub later_in : (x : A) (xs : List A) (y : A) → Contains xs y → Contains (x ∷ xs) y
  later_in x xs y h = Contains-append_right (x ∷ []) xs y h

  -- an item of a list is its first or a later one
  pub in_cases : (x : A) (xs : List A) (y : A) → Contains (x ∷ xs) y → (x ≡ y) ⊎ Contains xs y
  in_cases x xs y h = ⊎_elim (λ one. ⊎_elim (λ none. absurd (none_in y none)) inl (Contains-push_cases [] x y one)) inr (Contains-append_cases (x ∷ []) xs y h)

  -- the item of a list of one
  pub only_in : (x y : A) → Contains (x ∷ []) y → x ≡ y
  only_in x y h = ⊎_elim (λ e. e) (λ none. absurd (none_in y none)) (in_cases x [] y h)

  module _ (R : A → A → Type 0) where
    -- what holds of the first item and each later one, and between the later ones, holds between all
    pub pairs_cons : (x : A) (xs : List A) → ((y : A) → Contains xs y → R x y) → AllPairs R xs → AllPairs R (x ∷ xs)
    pairs_cons x xs first rest = AllPairs-cons R x xs (λ i d l. first (get_or xs i d) (Contains-get_or xs i d l)) rest

    -- what holds between the items of a list holds between the later ones
    pairs_later : (x : A) (xs : List A) → AllPairs R (x ∷ xs) → AllPairs R xs
    pairs_later x xs q i j d l m = q (suc i) (suc j) d (omega arith) (omega arith)

    -- and between the first one and a later one
    pairs_first : (x : A) (xs : List A) → AllPairs R (x ∷ xs) → (y : A) → Contains xs y → R x y
    pairs_first x xs q y (k, lt, e) = subst (λ z. R x z) e (q 0 (suc k) y (omega arith) (omega arith))

    -- what holds within two lists and from the one to the other holds within both in a row
    pub pairs_append : (xs ys : List A) → AllPairs R xs → AllPairs R ys → ((x y : A) → Contains xs x → Contains ys y → R x y) → AllPairs R (xs ++ ys)
    pairs_append [] ys p q h = q
    pairs_append (x ∷ xs) ys p q h =
        pairs_cons x (xs ++ ys)
        (λ y in'. ⊎_elim (pairs_first x xs p y) (h x y (first_in x xs)) (Contains-append_cases xs ys y in'))
        (pairs_append xs ys (pairs_later x xs p) q (λ u v hu hv. h u v (later_in x xs u hu) hv))

-- ---- the order

-- no finding stands before itself, so that each stands once
pub not_before_itself : (f : NodeFinding) → ComesBefore f f → ⊥
not_before_itself f h = ⊎_elim
    (λ l. omega (arith, l))
    (λ w. let tied : bytes_cmp (field_of f) (field_of f) ≡ Equal = tied_itself nat_list_cmp_total (field_of f) in let less = w.1 in cc)
    h

-- ---- parts

-- the findings are exactly those of which Q holds, in their order, and their places are from lo on and before hi
pub record IsPart (lo hi : ℕ) (Q : NodeFinding → Type 0) (xs : List NodeFinding) : Type 0 where
  pub exact : (f : NodeFinding) → Contains xs f ↔ Q f
  pub ascend : AllPairs ComesBefore xs
  pub within : (f : NodeFinding) → Contains xs f → (lo ≤ place_of f) × (place_of f < hi)

-- what has the place n is from n on and before n and one
at_place : (n : ℕ) (f : NodeFinding) → place_of f ≡ n → (n ≤ place_of f) × (place_of f < suc n)
at_place n f at = (omega arith, omega arith)

-- one finding is a part where there is cause
pub told_part : (n : ℕ) (b : Bool) (f : NodeFinding) → place_of f ≡ n → IsPart n (suc n) (λ x. (b ≡ true) × (x ≡ f)) (told_if b f)
told_part n true f at = record {
  exact = λ x. (λ h. (refl, sym (only_in f x h)), λ h. subst (Contains (f ∷ [])) (sym h.1) (first_in f []));
  ascend = λ i j d l m. absurd (omega (arith, l, m));
  within = λ x h. subst (λ y. (n ≤ place_of y) × (place_of y < suc n)) (only_in f x h) (at_place n f at);
}
told_part n false f at = record {
  exact = λ x. (λ h. absurd (none_in x h), λ h. absurd (true≢false (sym h.0)));
  ascend = λ i j d l m. absurd (omega (arith, m));
  within = λ x h. absurd (none_in x h);
}

-- a part is one of more places behind its own
pub wider : (a b c : ℕ) (Q : NodeFinding → Type 0) (xs : List NodeFinding) → b ≤ c → IsPart a b Q xs → IsPart a c Q xs
wider a b c Q xs more p = record {
  exact = p.exact;
  ascend = p.ascend;
  within = λ f h. let at = p.within f h in let low = at.0 in let high = at.1 in (low, omega (arith, more, high));
}

-- nothing is a part where there is nothing to tell
pub no_part : (lo hi : ℕ) (Q : NodeFinding → Type 0) → ((f : NodeFinding) → Q f → ⊥) → IsPart lo hi Q []
no_part lo hi Q none = record {
  exact = λ f. (λ h. absurd (none_in f h), λ h. absurd (none f h));
  ascend = λ i j d l m. absurd (omega (arith, m));
  within = λ f h. absurd (none_in f h);
}

-- a part said in other words
pub said : (lo hi : ℕ) (Q R : NodeFinding → Type 0) (xs : List NodeFinding) → ((f : NodeFinding) → Q f ↔ R f) → IsPart lo hi Q xs → IsPart lo hi R xs
said lo hi Q R xs same p = record {
  exact = λ f. (λ h. (same f).0 ((p.exact f).0 h), λ h. (p.exact f).1 ((same f).1 h));
  ascend = p.ascend;
  within = p.within;
}

-- two parts in a row are one
pub joined : (a b c : ℕ) (Q R : NodeFinding → Type 0) (xs ys : List NodeFinding) → a ≤ b → b ≤ c → IsPart a b Q xs → IsPart b c R ys → IsPart a c (λ f. Q f ⊎ R f) (xs ++ ys)
joined a b c Q R xs ys low high p q = record {
  exact = λ f. (
    λ h. ⊎_elim (λ l. inl ((p.exact f).0 l)) (λ r. inr ((q.exact f).0 r)) (Contains-append_cases xs ys f h),
    λ h. ⊎_elim (λ l. Contains-append_left xs ys f ((p.exact f).1 l)) (λ r. Contains-append_right xs ys f ((q.exact f).1 r)) h,
  );
  ascend = pairs_append ComesBefore xs ys p.ascend q.ascend (λ f g hf hg. inl (between f g (p.within f hf).1 (q.within g hg).0));
  within = λ f h. ⊎_elim (λ l. wider_up f (p.within f l)) (λ r. wider_down f (q.within f r)) (Contains-append_cases xs ys f h);
}
  where
    between : (f g : NodeFinding) → place_of f < b → b ≤ place_of g → place_of f < place_of g
    between f g l m = omega arith

    wider_up : (f : NodeFinding) → (a ≤ place_of f) × (place_of f < b) → (a ≤ place_of f) × (place_of f < c)
    wider_up f (l, m) = (l, omega arith)

    wider_down : (f : NodeFinding) → (b ≤ place_of f) × (place_of f < c) → (a ≤ place_of f) × (place_of f < c)
    wider_down f (l, m) = (omega arith, m)
