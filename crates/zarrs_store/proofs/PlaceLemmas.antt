-- Entries in the order of their keys' texts: what stands before a place and from a place on, and what a change at a place leaves.
use Rattle.std.proofs.Common.{◌≡◌, ℕ, zero, suc, ◌+◌, ◌-◌, ◌<◌, ◌≤◌, Bool, true, false, cond, List, [], ◌∷◌, ◌++◌, length, get_or, set, take, drop, refl, sym, ap, subst, ◌∙◌, Some, None, option_map, Result, Ok, Err, IfOk, IfErr, inl, inr, arith}
use Rattle.std.specs.List.{slice_get}
use Rattle.std.specs.Prelude.{All}
use Rattle.std.specs.List.{insert, remove, between}
use Rattle.std.specs.declared.cmp.Ordering.{Ordering}
use Rattle.std.specs.declared.cmp.Ordering.TheVariants.{Less, Equal, Greater}
use Rattle.std.specs.Ordering.{is_eq, is_lt, eq_by_cmp, ordering_reverse}
use Rattle.std.specs.List.Sorted.{IsStrictlySortedBy}
use Rattle.std.specs.Map.{keys_of, lookup}
use Rattle.std.specs.FinMap as finite
use Rattle.std.specs.Cmp.{IsEquivalence}
use Rattle.std.proofs.lemmas.Bool.{cases_lt, cond-false}
use Rattle.std.proofs.lemmas.Cmp.{eq_by_cmp_equiv}
use Rattle.std.proofs.lemmas.List.{get_or-map, get_or_default, get_or-take, get_or-drop, length-map, length-take-le, length-drop, take-append-drop, take_all, take-map, drop-map}
use Rattle.std.proofs.lemmas.List.Edits.{get_or-between, length-between}
use Rattle.std.proofs.lemmas.List.Elements.{All-nil, All-cons, All-head, All-tail, All-append, All-take, All-drop, All-map, All-set, recursion_from_All}
use Rattle.std.proofs.lemmas.Map.{NonePasses, lookup-none, lookup-insert}
use Rattle.std.proofs.lemmas.Option.{slice_get_read, slice_get_within, get_or_from_slice_get}
use Rattle.std.proofs.lemmas.Simd.{map-map}
use Rattle.std.proofs.lemmas.Map.Entries.{length-keys_of, lookup_from_place, none_past_head}
use Rattle.std.proofs.lemmas.Map.Keys.{Less-from_sorted, sorted_tail, IsDistinct-from_sorted}
use Rattle.std.proofs.lemmas.Map.Views.{All-after_first}
use Rattle.std.specs.FinMap.{slice_cmp-IsAntisymmetric, nat_cmp-IsAntisymmetric}
use Rattle.zarrs_store.specs.Segments.{Segments, key_text, segments_of, IsKey}
use Rattle.zarrs_store.specs.Places.{text_cmp, AreAscending, IsKeyAt, IsKeyGap}
use Rattle.zarrs_store.proofs.Cuts.{segments_of-key_text}
use Rattle.zarrs_store.proofs.EntryLemmas.{text_cmp_total, shown, shown_map, get-shown_key, shown_insert, shown_remove}

-- ---- what holds before a place, and from a place on

module _ {X : Type 0} (P : X → Type 0) (xs : List X) (i : ℕ) (inside : i ≤ length xs) where
  -- what holds at each place before i holds of the first i
  pub all_before : ((j : ℕ) (d : X) → j < i → P (get_or xs j d)) → All P (take i xs)
  all_before h j d l =
      let lt : j < i = omega (arith, l, length-take-le i xs inside) in
      subst P (sym (get_or-take i xs j d lt)) (h j d lt)

  -- what holds at each place from i on holds of what is behind the first i
  pub all_from : ((j : ℕ) (d : X) → i ≤ j → j < length xs → P (get_or xs j d)) → All P (drop i xs)
  all_from h j d l = subst P (sym (get_or-drop i xs j d)) (h (i + j) d (omega arith) (omega (arith, l, length-drop i xs)))

  -- and back
  pub at_from : All P (drop i xs) → (j : ℕ) (d : X) → i ≤ j → j < length xs → P (get_or xs j d)
  at_from h j d le lt =
      let same : i + (j - i) ≡ j = omega (arith, le) in
      subst (λ k. P (get_or xs k d)) same (subst P (get_or-drop i xs (j - i) d) (h (j - i) d (omega (arith, le, lt, length-drop i xs))))

-- what holds at each place from i to j holds of what is between
pub all_between : {X : Type 0} (P : X → Type 0) (xs : List X) (i j : ℕ) → j ≤ length xs → ((k : ℕ) (d : X) → i ≤ k → k < j → P (get_or xs k d)) → All P (between i j xs)
all_between P xs i j inside h k d l =
    let lt : i + k < j = omega (arith, l, length-between xs i j inside) in
    subst P (sym (get_or-between xs i j k d lt)) (h (i + k) d (omega arith) lt)

-- ---- ascending entries

module _ {X : Type 0} (es : List (Segments × X)) (up : AreAscending es) where
  -- keys at two places are in the places' order
  less_at : (i j : ℕ) (d : Segments × X) → i < j → j < length es → text_cmp (get_or es i d).0 (get_or es j d).0 ≡ Less
  less_at i j d before inside =
      let long = length-keys_of es in
      let first = get_or-map (λ (e : Segments × X). e.0) es i d d.0 (omega (arith, before, inside)) in
      let second = get_or-map (λ (e : Segments × X). e.0) es j d d.0 inside in
      ap (λ k. text_cmp k (get_or es j d).0) (sym first) ∙ ap (text_cmp (get_or (keys_of es) i d.0)) (sym second)
      ∙ Less-from_sorted text_cmp (keys_of es) i j d.0 up.ascending before (omega (arith, inside, long))

  module _ (middle : ℕ) (x : Segments × X) (is : x ≡ get_or es middle x) (inside : middle < length es) where
    here : (d : Segments × X) → get_or es middle d ≡ x
    here d = get_or_default es middle d x inside ∙ sym is

    -- what holds at a place and passes to smaller keys holds up to there
    pub up_to : (P : Segments × X → Type 0) → P x → ((a : Segments × X) → text_cmp a.0 x.0 ≡ Less → P a) → (j : ℕ) (d : Segments × X) → j < middle + 1 → P (get_or es j d)
    up_to P holds smaller j d lt = elim (cases_lt j middle) [
      | inl before ↦ smaller (get_or es j d) (subst (λ y. text_cmp (get_or es j d).0 y.0 ≡ Less) (here d) (less_at j middle d before inside))
      | inr from ↦
          let same : middle ≡ j = omega (arith, from, lt) in
          subst (λ k. P (get_or es k d)) same (subst P (sym (here d)) holds)
    ]

    -- what holds at a place and passes to greater keys holds from there on
    pub on_from : (P : Segments × X → Type 0) → P x → ((a : Segments × X) → text_cmp x.0 a.0 ≡ Less → P a) → (j : ℕ) (d : Segments × X) → middle ≤ j → j < length es → P (get_or es j d)
    on_from P holds greater j d le lt = elim (cases_lt middle j) [
      | inl behind ↦ greater (get_or es j d) (subst (λ y. text_cmp y.0 (get_or es j d).0 ≡ Less) (here d) (less_at middle j d behind lt))
      | inr upto ↦
          let same : middle ≡ j = omega (arith, le, upto) in
          subst (λ k. P (get_or es k d)) same (subst P (sym (here d)) holds)
    ]

-- ---- the search for a key

-- keys with texts in order alike are one
same_key : (a b : Segments) → IsKey a → IsKey b → text_cmp a b ≡ Equal → a ≡ b
same_key a b h k tie = sym (segments_of-key_text a h) ∙ ap segments_of (slice_cmp-IsAntisymmetric nat_cmp-IsAntisymmetric (key_text a) (key_text b) tie) ∙ segments_of-key_text b k

-- what a test by `<` says
pub less_of : (r : Ordering) → is_lt r ≡ true → r ≡ Less
less_of Less e = refl
less_of Equal e = cc
less_of Greater e = cc

-- an order turned
turned : (a b : Segments) (r : Ordering) → text_cmp a b ≡ r → text_cmp b a ≡ ordering_reverse r
turned a b r e = text_cmp_total.antisymm b a ∙ ap ordering_reverse e

module _ {X : Type 0} (es : List (Segments × X)) (up : AreAscending es) (key : Segments) (middle : ℕ) (x : Segments × X) (is : x ≡ get_or es middle x) (inside : middle < length es) where
  -- where the key in the middle is smaller, all keys up to it are
  pub smaller_step : text_cmp x.0 key ≡ Less → All (λ e. text_cmp e.0 key ≡ Less) (take (middle + 1) es)
  smaller_step h =
      all_before (λ e. text_cmp e.0 key ≡ Less) es (middle + 1) (omega (arith, inside))
      (up_to es up middle x is inside (λ e. text_cmp e.0 key ≡ Less) h (λ a less. text_cmp_total.trans a.0 x.0 key less h))

  -- where the key in the middle is greater, all keys from it on are
  pub greater_step : text_cmp x.0 key ≡ Greater → All (λ e. text_cmp e.0 key ≡ Greater) (drop middle es)
  greater_step h =
      all_from (λ e. text_cmp e.0 key ≡ Greater) es middle (omega (arith, inside))
      (on_from es up middle x is inside (λ e. text_cmp e.0 key ≡ Greater) h (λ a less. turned key a.0 Less (text_cmp_total.trans key x.0 a.0 (turned x.0 key Greater h) less)))

  -- where the key in the middle is equal, the key stands there
  pub found_there : IsKey key → text_cmp x.0 key ≡ Equal → IsKeyAt (keys_of es) key middle
  found_there valid h =
      let own = subst (λ (e : Segments × X). IsKey e.0) (sym is) (up.valid middle x inside) in
      record {
        inside = omega (arith, inside, length-keys_of es);
        is = get_or-map (λ (e : Segments × X). e.0) es middle x key inside ∙ ap (λ (e : Segments × X). e.0) (sym is) ∙ same_key x.0 key own valid h;
      }

-- ---- a place of the entries is one of the keys

module _ {X : Type 0} (es : List (Segments × X)) where
  -- the keys before a place
  pub keys_before : (P : Segments → Type 0) (i : ℕ) → All (λ e. P e.0) (take i es) → All P (take i (keys_of es))
  keys_before P i h = subst (All P) (sym (take-map (λ (e : Segments × X). e.0) i es)) (All-map P (λ (e : Segments × X). e.0) (take i es) h)

  -- the keys from a place on
  pub keys_from : (P : Segments → Type 0) (i : ℕ) → All (λ e. P e.0) (drop i es) → All P (drop i (keys_of es))
  keys_from P i h = subst (All P) (sym (drop-map (λ (e : Segments × X). e.0) i es)) (All-map P (λ (e : Segments × X). e.0) (drop i es) h)

  -- where a search for a key ends
  pub gap_there : (key : Segments) (low high : ℕ) → low ≤ high → high ≤ low → high ≤ length es
      → All (λ e. text_cmp e.0 key ≡ Less) (take low es) → All (λ e. text_cmp e.0 key ≡ Greater) (drop high es) → IsKeyGap (keys_of es) key low
  gap_there key low high le ge inside smaller greater =
      let same : high ≡ low = omega (arith, le, ge) in
      record {
        inside = omega (arith, le, inside, length-keys_of es);
        smaller = keys_before (λ k. text_cmp k key ≡ Less) low smaller;
        greater = keys_from (λ k. text_cmp k key ≡ Greater) low (subst (λ i. All (λ e. text_cmp e.0 key ≡ Greater) (drop i es)) same greater);
      }

-- ---- a list with one item more or less

-- what holds of all items and of one more
all_inserted : {K : Type 0} (P : K → Type 0) (ks : List K) (i : ℕ) (k : K) → All P ks → P k → All P (insert ks i k)
all_inserted P ks i k h one = All-append P (take i ks) (k ∷ drop i ks) (All-take P i ks h) (All-cons P k (drop i ks) one (All-drop P i ks h))

-- what holds of all items holds of all when one was removed
all_removed : {K : Type 0} (P : K → Type 0) (ks : List K) (i : ℕ) → All P ks → All P (remove ks i)
all_removed P ks i h = All-append P (take i ks) (drop (suc i) ks) (All-take P i ks h) (All-drop P (suc i) ks h)

module _ {K : Type 0} (R : K → K → Ordering) where
  -- what ascends, and has all that is smaller before a place and all that is greater from it on, ascends with a key there
  sorted_inserted : (ks : List K) (i : ℕ) (k : K) → IsStrictlySortedBy R ks → All (λ x. R x k ≡ Less) (take i ks) → All (λ x. R k x ≡ Less) (drop i ks) → IsStrictlySortedBy R (insert ks i k)
  unfolding IsStrictlySortedBy
  sorted_inserted ks zero k up smaller greater = (recursion_from_All (λ x. R k x ≡ Less) ks greater, up)
  sorted_inserted [] (suc i) k up smaller greater = (tt, tt)
  sorted_inserted (x ∷ ks) (suc i) k up smaller greater = (
    recursion_from_All (λ y. R x y ≡ Less) (insert ks i k) (all_inserted (λ y. R x y ≡ Less) ks i k (All-after_first R x ks up) (All-head (λ x. R x k ≡ Less) x (take i ks) smaller)),
    sorted_inserted ks i k (sorted_tail R x ks up) (All-tail (λ x. R x k ≡ Less) x (take i ks) smaller) greater,
  )

  -- what ascends does so without the item at a place
  sorted_removed : (ks : List K) (i : ℕ) → IsStrictlySortedBy R ks → IsStrictlySortedBy R (remove ks i)
  unfolding IsStrictlySortedBy
  sorted_removed [] zero up = tt
  sorted_removed [] (suc i) up = tt
  sorted_removed (x ∷ ks) zero up = sorted_tail R x ks up
  sorted_removed (x ∷ ks) (suc i) up = (
    recursion_from_All (λ y. R x y ≡ Less) (remove ks i) (all_removed (λ y. R x y ≡ Less) ks i (All-after_first R x ks up)),
    sorted_removed ks i (sorted_tail R x ks up),
  )

module _ {X : Type 0} where
  -- the keys of entries with one more are the keys with its key more
  keys_of-inserted : (es : List (Segments × X)) (i : ℕ) (k : Segments) (v : X) → keys_of (insert es i (k, v)) ≡ insert (keys_of es) i k
  keys_of-inserted es zero k v = refl
  keys_of-inserted [] (suc i) k v = refl
  keys_of-inserted (e ∷ es) (suc i) k v = ap (λ x. e.0 ∷ x) (keys_of-inserted es i k v)

  -- the keys of entries without one are the keys without its key
  keys_of-removed : (es : List (Segments × X)) (i : ℕ) → keys_of (remove es i) ≡ remove (keys_of es) i
  keys_of-removed [] zero = refl
  keys_of-removed [] (suc i) = refl
  keys_of-removed (e ∷ es) zero = refl
  keys_of-removed (e ∷ es) (suc i) = ap (λ x. e.0 ∷ x) (keys_of-removed es i)

  -- the keys of entries are the same where one has another value
  keys_of-set : (es : List (Segments × X)) (i : ℕ) (d : Segments × X) (v : X) → i < length es → keys_of (set es i ((get_or es i d).0, v)) ≡ keys_of es
  keys_of-set [] i d v lt = absurd (omega (arith, lt))
  keys_of-set (e ∷ es) zero d v lt = refl
  keys_of-set (e ∷ es) (suc i) d v lt = ap (λ x. e.0 ∷ x) (keys_of-set es i d v (omega (arith, lt)))

-- ---- what a change leaves

-- the keys before and behind do not differ from the key alone
abbrev ties : Segments → Segments → Bool
ties = eq_by_cmp text_cmp

-- ties of keys by their texts are an equivalence
laws : IsEquivalence ties
laws = eq_by_cmp_equiv text_cmp_total

-- two tests that do not both pass may be asked in either order
either_first : {Y : Type 0} (a b : Bool) (x y z : Y) → (a ≡ true → b ≡ true → ⊥) → cond a x (cond b y z) ≡ cond b y (cond a x z)
either_first true true x y z apart = absurd (apart refl refl)
either_first true false x y z apart = refl
either_first false b x y z apart = refl

module _ {X : Type 0} where
  -- what holds of each key holds of the key of each entry
  of_keys : (P : Segments → Type 0) (es : List (Segments × X)) → All P (keys_of es) → All (λ e. P e.0) es
  of_keys P es h i d l = subst P (get_or-map (λ (e : Segments × X). e.0) es i d d.0 l) (h i d.0 (omega (arith, l, length-keys_of es)))

  -- no key is the one for which there is a gap
  none_tied : (es : List (Segments × X)) (key : Segments) (i : ℕ) → IsKeyGap (keys_of es) key i → NonePasses (ties key) es
  none_tied es key i gap =
      let P : Segments → Type 0 = λ k. ties key k ≡ false in
      let all : All P (take i (keys_of es) ++ drop i (keys_of es)) = All-append P (take i (keys_of es)) (drop i (keys_of es))
      (λ j d l. ap is_eq (turned (get_or (take i (keys_of es)) j d) key Less (gap.smaller j d l)))
      (λ j d l. ap is_eq (turned (get_or (drop i (keys_of es)) j d) key Greater (gap.greater j d l))) in
      recursion_from_All (λ e. P e.0) es (of_keys P es (subst (All P) (take-append-drop i (keys_of es)) all))

  -- where two keys are tied, they look up the same
  lookup_tied : (key q : Segments) (es : List (Segments × X)) → ties key q ≡ true → lookup (ties q) es ≡ lookup (ties key) es
  lookup_tied key q [] e = refl
  lookup_tied key q (x ∷ es) e =
      ap (λ b. cond b (Some x.1) (lookup (ties q) es)) (sym (laws.congr key q x.0 e)) ∙ ap (cond (ties key x.0) (Some x.1)) (lookup_tied key q es e)

  -- a key behind the first is not tied to what the first is
  apart_at : (e : Segments × X) (es : List (Segments × X)) (i : ℕ) (d : Segments × X) (q : Segments) → IsStrictlySortedBy text_cmp (keys_of (e ∷ es)) → i < length es
      → ties q e.0 ≡ true → ties (get_or es i d).0 q ≡ true → ⊥
  apart_at e es i d q up lt one other =
      let less = of_keys (λ k. text_cmp e.0 k ≡ Less) es (All-after_first text_cmp e.0 (keys_of es) up) i d lt in
      let same = laws.congr (get_or es i d).0 q e.0 other ∙ one in
      let apart : ties (get_or es i d).0 e.0 ≡ false = ap is_eq (turned e.0 (get_or es i d).0 Less less) in
      let both : true ≡ false = sym same ∙ apart in
      cc

  -- a look-up after a write
  lookup-written : (es : List (Segments × X)) (i : ℕ) (d : Segments × X) (v : X) (q : Segments) → IsStrictlySortedBy text_cmp (keys_of es) → i < length es
      → lookup (ties q) (set es i ((get_or es i d).0, v)) ≡ cond (ties (get_or es i d).0 q) (Some v) (lookup (ties q) es)
  lookup-written [] i d v q up lt = absurd (omega (arith, lt))
  lookup-written (e ∷ es) zero d v q up lt =
      ap (λ b. cond b (Some v) (lookup (ties q) es)) (laws.symm q e.0)
      ∙ elim (ties e.0 q) as (λ b. ties e.0 q ≡ b → cond b (Some v) (lookup (ties q) es) ≡ cond b (Some v) (cond (ties q e.0) (Some e.1) (lookup (ties q) es))) [
        | true ↦ λ _. refl
        | false ↦ λ f. sym (cond-false (ties q e.0) (Some e.1) (lookup (ties q) es) (laws.symm q e.0 ∙ f))
      ] refl
  lookup-written (e ∷ es) (suc i) d v q up lt =
      ap (cond (ties q e.0) (Some e.1)) (lookup-written es i d v q (sorted_tail text_cmp e.0 (keys_of es) up) (omega (arith, lt)))
      ∙ either_first (ties q e.0) (ties (get_or es i d).0 q) (Some e.1) (Some v) (lookup (ties q) es) (apart_at e es i d q up (omega (arith, lt)))

  -- a look-up after a removal
  lookup-removed : (es : List (Segments × X)) (i : ℕ) (d : Segments × X) (q : Segments) → IsStrictlySortedBy text_cmp (keys_of es) → i < length es
      → lookup (ties q) (remove es i) ≡ cond (ties (get_or es i d).0 q) None (lookup (ties q) es)
  lookup-removed [] i d q up lt = absurd (omega (arith, lt))
  lookup-removed (e ∷ es) zero d q up lt =
      elim (ties e.0 q) as (λ b. ties e.0 q ≡ b → lookup (ties q) es ≡ cond b None (cond (ties q e.0) (Some e.1) (lookup (ties q) es))) [
        | true ↦ λ f. lookup-none (ties q) es (none_past_head laws q e es (IsDistinct-from_sorted text_cmp (keys_of (e ∷ es)) up) (laws.symm q e.0 ∙ f))
        | false ↦ λ f. sym (cond-false (ties q e.0) (Some e.1) (lookup (ties q) es) (laws.symm q e.0 ∙ f))
      ] refl
  lookup-removed (e ∷ es) (suc i) d q up lt =
      ap (cond (ties q e.0) (Some e.1)) (lookup-removed es i d q (sorted_tail text_cmp e.0 (keys_of es) up) (omega (arith, lt)))
      ∙ either_first (ties q e.0) (ties (get_or es i d).0 q) (Some e.1) None (lookup (ties q) es) (apart_at e es i d q up (omega (arith, lt)))

-- ---- the store's map after a change at a place

module _ {X Y : Type 0} (f : X → Y) (es : List (Segments × X)) where
  -- the entries that contracts see have the same keys
  pub keys_of-shown : keys_of (shown f es) ≡ keys_of es
  keys_of-shown = map-map (λ (e : Segments × Y). e.0) (λ (e : Segments × X). (e.0, f e.1)) es

  -- and are as many
  pub length-shown : length (shown f es) ≡ length es
  length-shown = length-map es (λ (e : Segments × X). (e.0, f e.1))

  module _ (up : AreAscending es) (key : Segments) (valid : IsKey key) (i : ℕ) where
    module _ (at : IsKeyAt (keys_of (shown f es)) key i) where
      -- the place is one of the entries
      pub place_inside : i < length es
      place_inside = omega (arith, at.inside, length-keys_of (shown f es), length-shown)

      -- and what stands there has the key
      key_there : (x : Segments × X) → x ≡ get_or es i x → x.0 ≡ key
      key_there x is =
          ap (λ (e : Segments × X). e.0) is ∙ sym (get_or-map (λ (e : Segments × X). e.0) es i x key place_inside)
          ∙ ap (λ ks. get_or ks i key) (sym keys_of-shown) ∙ at.is

      -- its bytes are what the map has at the key
      pub get_there : (x : Segments × X) → x ≡ get_or es i x → finite.get (shown_map f es) key ≡ Some (f x.1)
      get_there x is =
          get-shown_key f es key up.valid valid
          ∙ ap (λ k. option_map f (lookup (ties k) es)) (sym (key_there x is))
          ∙ ap (option_map f) (lookup_from_place laws es i x.0 x.1 (IsDistinct-from_sorted text_cmp (keys_of es) up.ascending) (slice_get_read es (length es) i x refl place_inside is))

      -- other bytes there
      pub ascending_written : (x : Segments × X) (v : X) → x ≡ get_or es i x → AreAscending (set es i (x.0, v))
      ascending_written x v is =
          subst (λ k. AreAscending (set es i (k, v))) (sym (ap (λ (e : Segments × X). e.0) is)) (record {
            valid = All-set (λ e. IsKey e.0) es i ((get_or es i x).0, v) (up.valid i x place_inside) up.valid;
            ascending = subst (IsStrictlySortedBy text_cmp) (sym (keys_of-set es i x v place_inside)) up.ascending;
          })

      pub map_written : (x : Segments × X) (v : X) → x ≡ get_or es i x → shown_map f (set es i (x.0, v)) ≡ finite.insert (shown_map f es) key (f v)
      map_written x v is =
          shown_insert f es (set es i (x.0, v)) key v up.valid (ascending_written x v is).valid valid
          (λ q. ap (λ k. lookup (ties q) (set es i (k, v))) (ap (λ (e : Segments × X). e.0) is)
          ∙ lookup-written es i x v q up.ascending place_inside
          ∙ ap (λ k. cond (ties k q) (Some v) (lookup (ties q) es)) (ap (λ (e : Segments × X). e.0) (sym is) ∙ key_there x is))

      -- the key is taken away
      pub ascending_removed : AreAscending (remove es i)
      ascending_removed = record {
        valid = all_removed (λ e. IsKey e.0) es i up.valid;
        ascending = subst (IsStrictlySortedBy text_cmp) (sym (keys_of-removed es i)) (sorted_removed text_cmp (keys_of es) i up.ascending);
      }

      pub map_removed : (x : Segments × X) → x ≡ get_or es i x → shown_map f (remove es i) ≡ finite.remove (shown_map f es) key
      map_removed x is =
          shown_remove f es (remove es i) key up.valid ascending_removed.valid valid
          (λ q. lookup-removed es i x q up.ascending place_inside
          ∙ ap (λ k. cond (ties k q) None (lookup (ties q) es)) (ap (λ (e : Segments × X). e.0) (sym is) ∙ key_there x is))

    module _ (gap : IsKeyGap (keys_of (shown f es)) key i) where
      own_gap : IsKeyGap (keys_of es) key i
      own_gap = subst (λ ks. IsKeyGap ks key i) keys_of-shown gap

      -- the map has nothing at the key
      pub get_missing : finite.get (shown_map f es) key ≡ None
      get_missing = get-shown_key f es key up.valid valid ∙ ap (option_map f) (lookup-none (ties key) es (none_tied es key i own_gap))

      -- the key is put there
      pub ascending_inserted : (v : X) → AreAscending (insert es i (key, v))
      ascending_inserted v = record {
        valid = all_inserted (λ e. IsKey e.0) es i (key, v) up.valid valid;
        ascending = subst (IsStrictlySortedBy text_cmp) (sym (keys_of-inserted es i key v)) (sorted_inserted text_cmp (keys_of es) i key up.ascending own_gap.smaller
            (λ j d l. turned (get_or (drop i (keys_of es)) j d) key Greater (own_gap.greater j d l)));
      }

      pub map_inserted : (v : X) → shown_map f (insert es i (key, v)) ≡ finite.insert (shown_map f es) key (f v)
      map_inserted v =
          shown_insert f es (insert es i (key, v)) key v up.valid (ascending_inserted v).valid valid
          (λ q. lookup-insert laws key v q es i (none_tied es key i own_gap))

      -- there is nothing to take away
      pub map_kept : shown_map f es ≡ finite.remove (shown_map f es) key
      map_kept =
          shown_remove f es es key up.valid up.valid valid
          (λ q. elim (ties key q) as (λ b. ties key q ≡ b → lookup (ties q) es ≡ cond b None (lookup (ties q) es)) [
            | true ↦ λ e. lookup_tied key q es e ∙ lookup-none (ties key) es (none_tied es key i own_gap)
            | false ↦ λ _. refl
          ] refl)

-- a key behind the last stands behind all
pub gap_behind : {X Y : Type 0} (f : X → Y) (es : List (Segments × X)) → AreAscending es → (key : Segments) → All (λ e. text_cmp e.0 key ≡ Less) es → IsKeyGap (keys_of (shown f es)) key (length es)
gap_behind {X = X} f es up key less =
    subst (λ ks. IsKeyGap ks key (length es)) (sym (keys_of-shown f es)) (record {
      inside = omega (arith, length-keys_of es);
      smaller = keys_before es (λ k. text_cmp k key ≡ Less) (length es) (All-take (λ e. text_cmp e.0 key ≡ Less) (length es) es less);
      greater = keys_from es (λ k. text_cmp k key ≡ Greater) (length es) (λ j d l. absurd (omega (arith, l, length-drop (length es) es)));
    })

-- the last key, where the key is behind it
pub behind_last : {X : Type 0} (es : List (Segments × X)) → AreAscending es → (key : Segments) (x : Segments × X) → Some x ≡ slice_get es (length es - 1) → text_cmp x.0 key ≡ Less → All (λ e. text_cmp e.0 key ≡ Less) es
behind_last es up key x last less =
    let within = slice_get_within es (length es - 1) x (sym last) in
    let is = sym (get_or_from_slice_get es (length es - 1) x x (sym last)) in
    let all = smaller_step es up key (length es - 1) x is within less in
    let whole : length es ≤ length es - 1 + 1 = omega (arith, within) in
    subst (All (λ e. text_cmp e.0 key ≡ Less)) (take_all (length es - 1 + 1) es whole) all

-- no entries ascend
pub none_ascend : {X : Type 0} (es : List (Segments × X)) → es ≡ [] → AreAscending es
unfolding IsStrictlySortedBy
none_ascend es is = subst AreAscending (sym is) (record { valid = All-nil (λ e. IsKey e.0); ascending = tt })

-- what a place is, where one was found, and where none was
pub at_ok : (P : ℕ → Type 0) (r : Result ℕ ℕ) (i : ℕ) → r ≡ Ok i → IfOk r P → P i
at_ok P r i is h = subst (λ o. IfOk o P) is h

-- what holds of the place where none was found holds of that place
pub at_err : (P : ℕ → Type 0) (r : Result ℕ ℕ) (i : ℕ) → r ≡ Err i → IfErr r P → P i
at_err P r i is h = subst (λ o. IfErr o P) is h
