-- Entries that ascend: what the constructor finds, and where a search for a key ends.
use Rattle.std.proofs.Common.{◌≡◌, ℕ, ◌+◌, ◌-◌, ◌<◌, ◌≤◌, true, false, List, [], ◌∷◌, length, get_or, take, refl, sym, ap, subst, ◌∙◌, Result, Ok, Err, IfOk, IfErr, inl, inr, arith}
use Rattle.std.specs.declared.cmp.Ordering.TheVariants.{Less, Equal, Greater}
use Rattle.std.specs.declared.cmp.Ordering.{Ordering}
use Rattle.std.specs.Ordering.{is_le, ordering_index, ordering_reverse}
use Rattle.std.specs.List.Sorted.{IsStrictlySortedBy, IsSearchInRange, IsBinarySearchResult, IsNonDecreasingBy}
use Rattle.std.specs.Map.{keys_of}
use Rattle.std.proofs.lemmas.Bool.{cases_lt}
use Rattle.std.proofs.lemmas.List.{get_or-map, get_or_default, get_or-take, length-take-le, take_all, take-map}
use Rattle.std.proofs.lemmas.List.Elements.{All-map}
use Rattle.std.proofs.lemmas.Map.Entries.{length-keys_of}
use Rattle.std.proofs.lemmas.Map.Keys.{sorted_from_all_adjacent}
use Rattle.std.proofs.lemmas.Slice.Eq.{bytes_eq-Decides}
use Rattle.std.specs.FinMap.{slice_cmp-IsAntisymmetric, nat_cmp-IsAntisymmetric}
use Rattle.zarrs_store.specs.Segments.{Segments, IsKey, bytes_eq, key_text, segments_of}
use Rattle.zarrs_store.specs.Places.{text_cmp, AreAscending, IsKeyAt, IsKeyGap}
use Rattle.zarrs_store.proofs.EntryLemmas.{text_cmp_total, shown}
use Rattle.zarrs_store.proofs.PlaceLemmas.{all_before, up_to, keys_before, keys_from, all_from, found_there, keys_of-shown}
use Rattle.zarrs_store.proofs.Cuts.{segments_of-key_text}
use Rattle.zarrs_examples.specs.OwnStores.{StandsBehind}
use Rattle.zarrs_examples.specs.StepsOfOwnStores.{IsMisplaced}

-- ---- the search for a key

-- the first of some items
some_item : {X : Type 0} (xs : List X) (i : ℕ) → i < length xs → X
some_item [] i l = absurd (omega (arith, l))
some_item (x ∷ xs) i l = x

module _ {X : Type 0} (es : List (Segments × X)) (up : AreAscending es) (key : Segments) (valid : IsKey key) where
  -- how a key compares with the key is no more than how a greater one does
  later : (a b : Segments) → text_cmp a b ≡ Less → ordering_index (text_cmp a key) ≤ ordering_index (text_cmp b key)
  later a b less = by (text_cmp a key) (text_cmp b key) refl refl
    where
      by : (r s : Ordering) → text_cmp a key ≡ r → text_cmp b key ≡ s → ordering_index (text_cmp a key) ≤ ordering_index (text_cmp b key)
      by Less s e f = omega (arith, ap ordering_index e)
      by Equal Less e f =
          let both : text_cmp a key ≡ Less = text_cmp_total.trans a b key less f in
          omega (arith, ap ordering_index e, ap ordering_index both)
      by Equal Equal e f = omega (arith, ap ordering_index e, ap ordering_index f)
      by Equal Greater e f = omega (arith, ap ordering_index e, ap ordering_index f)
      by Greater s e f =
          let back : text_cmp key a ≡ Less = text_cmp_total.antisymm key a ∙ ap ordering_reverse e in
          let far : text_cmp b key ≡ Greater = text_cmp_total.antisymm b key ∙ ap ordering_reverse (text_cmp_total.trans key a b back less) in
          omega (arith, ap ordering_index e, ap ordering_index far)

  -- so along the entries it does not fall
  rises : IsNonDecreasingBy (λ e. ordering_index (text_cmp e.0 key)) es
  rises i j d le lt =
      let x = get_or es j d in
      up_to es up j x (get_or_default es j d x lt) lt (λ e. ordering_index (text_cmp e.0 key) ≤ ordering_index (text_cmp x.0 key))
      (omega arith) (λ e less. later e.0 x.0 less) i d (omega (arith, le))

  -- a search that finds the key has its place
  pub search_found : (r : Result ℕ ℕ) → IsSearchInRange r (length es) → IsBinarySearchResult (λ e. text_cmp e.0 key) es r → IfOk r (IsKeyAt (keys_of es) key)
  search_found (Ok i) inside at =
      let d = some_item es i inside in
      let x = get_or es i d in
      found_there es up key i x (get_or_default es i d x inside) inside valid (at d)
  search_found (Err i) inside at = tt

  -- a search that does not find it has the place where it would stand
  pub search_missed : (r : Result ℕ ℕ) → IsSearchInRange r (length es) → IsBinarySearchResult (λ e. text_cmp e.0 key) es r → IfErr r (IsKeyGap (keys_of es) key)
  search_missed (Ok i) inside at = tt
  search_missed (Err i) inside at = record {
    inside = omega (arith, inside, length-keys_of es);
    smaller = keys_before es (λ k. text_cmp k key ≡ Less) i (all_before (λ e. text_cmp e.0 key ≡ Less) es i inside (λ j d lt. (at rises).0 j d (omega arith) lt));
    greater = keys_from es (λ k. text_cmp k key ≡ Greater) i (all_from (λ e. text_cmp e.0 key ≡ Greater) es i inside (λ j d le lt. (at rises).1 j d le lt));
  }

-- ---- what the constructor finds

-- an order that is not at most is greater
greater_of : (r : Ordering) → is_le r ≡ false → r ≡ Greater
greater_of Less e = cc
greater_of Equal e = cc
greater_of Greater e = refl

-- the keys before a place are keys, and each is less than the next
pub record HasSteps {X : Type 0} (es : List (Segments × X)) (at : ℕ) : Type 0 where
  pub valid : (j : ℕ) (d : Segments × X) → j < at → IsKey (get_or es j d).0
  pub less : (j : ℕ) (d : Segments × X) → j + 1 < at → text_cmp (get_or es j d).0 (get_or es (j + 1) d).0 ≡ Less

module _ {X : Type 0} (es : List (Segments × X)) (at : ℕ) where
  -- so the entries before it ascend
  pub steps_ascend : at ≤ length es → HasSteps es at → AreAscending (take at es)
  steps_ascend inside steps = record {
    valid = all_before (λ e. IsKey e.0) es at inside steps.valid;
    ascending = sorted_from_all_adjacent text_cmp_total (keys_of (take at es)) [] (λ k lt.
        let long : length (take at es) ≡ at = length-take-le at es inside in
        let within : k + 1 < at = omega (arith, lt, long, length-keys_of (take at es)) in
        next k lt within (some_item (take at es) (k + 1) (omega (arith, within, long))));
  }
    where
      next : (k : ℕ) → k + 1 < length (keys_of (take at es)) → k + 1 < at → (d : Segments × X) → text_cmp (get_or (keys_of (take at es)) k []) (get_or (keys_of (take at es)) (k + 1) []) ≡ Less
      next k lt within d =
          let long = length-keys_of (take at es) in
          let first = get_or-map (λ (e : Segments × X). e.0) (take at es) k d [] (omega (arith, lt, long)) ∙ ap (λ (e : Segments × X). e.0) (get_or-take at es k d (omega (arith, within))) in
          let second = get_or-map (λ (e : Segments × X). e.0) (take at es) (k + 1) d [] (omega (arith, lt, long)) ∙ ap (λ (e : Segments × X). e.0) (get_or-take at es (k + 1) d within) in
          ap (λ q. text_cmp q (get_or (keys_of (take at es)) (k + 1) [])) first ∙ ap (text_cmp (get_or es k d).0) second ∙ steps.less k d within

  module _ (steps : HasSteps es at) (x : Segments × X) (is : x ≡ get_or es at x) (inside : at < length es) (valid : IsKey x.0) where
    -- one step more
    pub one_more : ((d : Segments × X) → 0 < at → text_cmp (get_or es (at - 1) d).0 x.0 ≡ Less) → HasSteps es (at + 1)
    one_more less = record {
      valid = λ j d lt. elim (cases_lt j at) [
        | inl before ↦ steps.valid j d before
        | inr from ↦
            let same : at ≡ j = omega (arith, lt, from) in
            subst (λ k. IsKey (get_or es k d).0) same (subst (λ (e : Segments × X). IsKey e.0) (is ∙ get_or_default es at x d inside) valid)
      ];
      less = λ j d lt. elim (cases_lt (j + 1) at) [
        | inl before ↦ steps.less j d before
        | inr from ↦
            let same : at ≡ j + 1 = omega (arith, lt, from) in
            let before : at - 1 ≡ j = omega (arith, same) in
            subst (λ k. text_cmp (get_or es j d).0 (get_or es k d).0 ≡ Less) same
            (subst (λ k. text_cmp (get_or es k d).0 (get_or es at d).0 ≡ Less) before
            (subst (λ (e : Segments × X). text_cmp (get_or es (at - 1) d).0 e.0 ≡ Less) (is ∙ get_or_default es at x d inside) (less d (omega (arith, same)))))
      ];
    }

    -- the first place has none before it
    pub first_step : (0 < at → ⊥) → HasSteps es (at + 1)
    first_step none = one_more (λ d later. absurd (none later))

    module _ (y : Segments × X) (before : y ≡ get_or es (at - 1) y) where
      -- the entry before the place, whatever the default
      before_it : (d : Segments × X) → y ≡ get_or es (at - 1) d
      before_it d = before ∙ get_or_default es (at - 1) y d (omega (arith, inside))

      -- a key that is greater than the one before it
      pub next_step : is_le (text_cmp x.0 y.0) ≡ false → HasSteps es (at + 1)
      next_step greater =
          let less : text_cmp y.0 x.0 ≡ Less = text_cmp_total.antisymm y.0 x.0 ∙ ap ordering_reverse (greater_of (text_cmp x.0 y.0) greater) in
          one_more (λ d later. subst (λ (e : Segments × X). text_cmp e.0 x.0 ≡ Less) (before_it d) less)

      -- a key that is not
      pub misplaced : 0 < at → is_le (text_cmp x.0 y.0) ≡ true → IsMisplaced es at
      misplaced later le = record {
        later = later;
        inside = inside;
        ascending = steps_ascend (omega (arith, inside)) steps;
        valid = λ d. subst (λ (e : Segments × X). IsKey e.0) (is ∙ get_or_default es at x d inside) valid;
        is = λ d.
            subst (λ (e : Segments × X). is_le (text_cmp (get_or es at d).0 e.0) ≡ true) (before_it d)
            (subst (λ (e : Segments × X). is_le (text_cmp e.0 y.0) ≡ true) (is ∙ get_or_default es at x d inside) le);
      }

-- steps at all places
pub all_ascend : {X : Type 0} (es : List (Segments × X)) (at : ℕ) → at ≤ length es → length es ≤ at → HasSteps es at → AreAscending es
all_ascend es at inside end steps = subst AreAscending (take_all at es end) (steps_ascend es at inside steps)

-- ---- the refusals of the constructor

-- entries whose values are seen otherwise ascend as well
pub shown_ascend : {X Y : Type 0} (f : X → Y) (es : List (Segments × X)) → AreAscending es → AreAscending (shown f es)
shown_ascend {X} {Y} f es up = record {
  valid = All-map (λ (e : Segments × Y). IsKey e.0) (λ (e : Segments × X). (e.0, f e.1)) es up.valid;
  ascending = subst (IsStrictlySortedBy text_cmp) (sym (keys_of-shown f es)) up.ascending;
}

module _ {X : Type 0} (es : List (Segments × X)) (at : ℕ) (m : IsMisplaced es at) (y x : Segments × X) (before : y ≡ get_or es (at - 1) y) (is : x ≡ get_or es at x) where
  -- the place before
  back : at - 1 + 1 ≡ at
  back = omega (arith, m.later)

  -- the key of an entry stands at its place
  key_at : (i : ℕ) (e : Segments × X) → e ≡ get_or es i e → i < length es → IsKeyAt (keys_of es) e.0 i
  key_at i e same inside = record {
    inside = omega (arith, inside, length-keys_of es);
    is = get_or-map (λ (e : Segments × X). e.0) es i e e.0 inside ∙ ap (λ (e : Segments × X). e.0) (sym same);
  }

  -- the key stands right behind the one before it
  stands_behind : StandsBehind (keys_of es) y.0 x.0
  stands_behind = record {
    place = at - 1;
    before = key_at (at - 1) y before (omega (arith, m.inside));
    is = subst (IsKeyAt (keys_of es) x.0) (sym back) (key_at at x is m.inside);
    ascending = subst (λ i. IsStrictlySortedBy text_cmp (take i (keys_of es))) (sym back)
        (subst (IsStrictlySortedBy text_cmp) (sym (take-map (λ (e : Segments × X). e.0) at es)) m.ascending.ascending);
  }

  -- the key is one of segments
  is_key : IsKey x.0
  is_key = subst (λ (e : Segments × X). IsKey e.0) (sym is) (m.valid x)

  -- so is the one before it
  is_key_before : IsKey y.0
  is_key_before =
      let lt : at - 1 < at = omega (arith, m.later) in
      subst (λ (e : Segments × X). IsKey e.0) (get_or-take at es (at - 1) y lt ∙ sym before)
      (m.ascending.valid (at - 1) y (omega (arith, lt, m.inside, length-take-le at es (omega (arith, m.inside)))))

  -- keys with the same text
  pub doubled : bytes_eq (key_text y.0) (key_text x.0) ≡ true → StandsBehind (keys_of es) x.0 x.0
  doubled e =
      let text : key_text y.0 ≡ key_text x.0 = (bytes_eq-Decides (key_text y.0) (key_text x.0)).0 e in
      let same : y.0 ≡ x.0 = sym (segments_of-key_text y.0 is_key_before) ∙ ap segments_of text ∙ segments_of-key_text x.0 is_key in
      subst (λ last. StandsBehind (keys_of es) last x.0) same stands_behind

  -- keys with different texts
  pub unordered : bytes_eq (key_text y.0) (key_text x.0) ≡ false → (last : Segments) × StandsBehind (keys_of es) last x.0 × (text_cmp last x.0 ≡ Greater)
  unordered e =
      let le : is_le (text_cmp x.0 y.0) ≡ true =
      subst (λ (b : Segments × X). is_le (text_cmp x.0 b.0) ≡ true) (get_or_default es (at - 1) x y (omega (arith, m.inside)) ∙ sym before)
      (subst (λ (a : Segments × X). is_le (text_cmp a.0 (get_or es (at - 1) x).0) ≡ true) (sym is) (m.is x)) in
      (y.0, stands_behind, text_cmp_total.antisymm y.0 x.0 ∙ ap ordering_reverse (by (text_cmp x.0 y.0) refl le))
    where
      by : (r : Ordering) → text_cmp x.0 y.0 ≡ r → is_le r ≡ true → r ≡ Less
      by Less f le = refl
      by Equal f le =
          let text : key_text x.0 ≡ key_text y.0 = slice_cmp-IsAntisymmetric nat_cmp-IsAntisymmetric (key_text x.0) (key_text y.0) f in
          let both : bytes_eq (key_text y.0) (key_text x.0) ≡ true = (bytes_eq-Decides (key_text y.0) (key_text x.0)).1 (sym text) in
          cc
      by Greater f le = cc
