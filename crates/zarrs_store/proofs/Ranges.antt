-- The keys below a prefix stand together, from the first that is not before the prefix's text on.
use Rattle.std.proofs.Common.{◌≡◌, ◌≢◌, ℕ, suc, ◌+◌, ◌-◌, ◌<◌, ◌≤◌, Bool, true, false, cond, List, [], ◌∷◌, ◌++◌, length, get_or, take, drop, slice_range, refl, sym, ap, subst, ◌∙◌, append_assoc, append-nil, Some, None, Option, option_map, arith}
use Rattle.std.specs.Prelude.{All, filter, filter_map, is_some}
use Rattle.std.specs.declared.cmp.Ordering.TheVariants.{Less, Equal, Greater}
use Rattle.std.specs.Ordering.{is_lt, nat_cmp, ordering_then}
use Rattle.std.specs.FinMap.{nat_cmp-IsAntisymmetric}
use Rattle.std.specs.List.{cons_option}
use Rattle.std.specs.Map.{keys_of}
use Rattle.std.proofs.lemmas.Cmp.{nat_cmp_total, nat_list_cmp_total, tied_itself}
use Rattle.std.proofs.lemmas.List.{drop_all, take-map, drop-map}
use Rattle.std.proofs.Math.Seq.{drop-cons}
use Rattle.std.proofs.lemmas.List.Edits.{split_between, length-between}
use Rattle.std.proofs.lemmas.List.Elements.{All-head, All-tail, All-map, filter-append}
use Rattle.std.proofs.lemmas.Map.Entries.{length-keys_of}
use Rattle.zarrs_store.specs.Segments.{Segments, bytes_cmp, key_text, prefix_text, IsKey, IsPrefix}
use Rattle.zarrs_store.specs.Entries.{beyond, is_below}
use Rattle.zarrs_store.specs.StepsOfStores.{is_one, is_child_key, first_of_more, child_name}
use Rattle.zarrs_store.specs.Places.{text_cmp, AreAscending, IsRange, keys_below}
use Rattle.zarrs_store.proofs.BelowLemmas.{from_beyond, key_text-below, beyond-text}
use Rattle.zarrs_store.proofs.EntryLemmas.{shown}
use Rattle.zarrs_store.proofs.PlaceLemmas.{less_of, keys_of-shown, all_before, at_from, all_from, all_between, up_to, on_from, keys_before, keys_from}

-- ---- texts that begin with a text

-- a text that begins with ps is not below ps
not_less : (ps u : List ℕ) → is_lt (bytes_cmp (ps ++ u) ps) ≡ false
not_less [] [] = refl
not_less [] (b ∷ u) = refl
not_less (c ∷ ps) u = ap (λ r. is_lt (ordering_then r (bytes_cmp (ps ++ u) ps))) (tied_itself nat_cmp_total c) ∙ not_less ps u

-- a text that is not below ps and does not begin with it is above all that do
past_all : (ps t r : List ℕ) → is_lt (bytes_cmp t ps) ≡ false → ((u : List ℕ) → t ≢ ps ++ u) → bytes_cmp t (ps ++ r) ≡ Greater
past_all [] t r h apart = absurd (apart t refl)
past_all (c ∷ ps) [] r h apart = cc
past_all (c ∷ ps) (d ∷ ds) r h apart =
    elim (nat_cmp d c) as (λ o. nat_cmp d c ≡ o → is_lt (ordering_then o (bytes_cmp ds ps)) ≡ false → ordering_then o (bytes_cmp ds (ps ++ r)) ≡ Greater) [
      | Less ↦ λ _ k. cc
      | Equal ↦ λ e k.
          let same : d ≡ c = nat_cmp-IsAntisymmetric d c e in
          past_all ps ds r k (λ u f. apart u (ap (λ x. x ∷ ds) same ∙ ap (λ x. c ∷ x) f))
      | Greater ↦ λ _ _. refl
    ] refl h

-- ---- keys below a prefix

-- whether the text of a key is before that of a prefix
abbrev pub is_before : Segments → Segments → Bool
is_before p k = is_lt (bytes_cmp (key_text k) (prefix_text p))

-- a key below the prefix is not before it
below_not_before : (p k r : Segments) → beyond p k ≡ Some r → is_before p k ≡ false
below_not_before p k r e =
    let h = from_beyond p k r e in
    ap (λ t. is_lt (bytes_cmp t (prefix_text p))) (ap key_text h.is ∙ key_text-below p h.name h.more) ∙ not_less (prefix_text p) (key_text (h.name ∷ h.more))

-- a key before the prefix is not below it
pub before_not_below : (p k : Segments) → is_before p k ≡ true → is_below p k ≡ false
before_not_below p k before = elim (beyond p k) as (λ o. beyond p k ≡ o → is_some o ≡ false) [
  | None ↦ λ _. refl
  | Some r ↦ λ some. let not = below_not_before p k r some in cc
] refl

-- a key that is neither before the prefix nor below it is behind all that are below
past_block : (p k q r : Segments) → IsPrefix p → IsKey k → is_before p k ≡ false → beyond p k ≡ None → beyond p q ≡ Some r → text_cmp k q ≡ Greater
past_block p k q r valid key from none some =
    let h = from_beyond p q r some in
    ap (bytes_cmp (key_text k)) (ap key_text h.is ∙ key_text-below p h.name h.more)
    ∙ past_all (prefix_text p) (key_text k) (key_text (h.name ∷ h.more)) from
    (λ u e. let f : Some u ≡ None = beyond-text p k u valid key e ∙ ap (option_map key_text) none in cc)

-- what is not there is nothing
not_some : {X : Type 0} (o : Option X) → is_some o ≡ false → o ≡ None
not_some None e = refl
not_some (Some x) e = cc

-- a key behind one that is past the prefix is not below it
pub none_later : (p k q : Segments) → IsPrefix p → IsKey k → is_before p k ≡ false → is_below p k ≡ false → text_cmp k q ≡ Less → is_below p q ≡ false
none_later p k q valid key from outside less =
    elim (beyond p q) as (λ o. beyond p q ≡ o → is_some o ≡ false) [
      | None ↦ λ _. refl
      | Some r ↦ λ some. let above = past_block p k q r valid key from (not_some (beyond p k) outside) some in cc
    ] refl

-- a key that is not before the prefix and stands before one that is below it is below it
pub below_earlier : (p k q : Segments) → IsPrefix p → IsKey k → is_before p k ≡ false → is_below p q ≡ true → text_cmp k q ≡ Less → is_below p k ≡ true
below_earlier p k q valid key from inside less =
    elim (is_below p k) as (λ b. is_below p k ≡ b → b ≡ true) [
      | true ↦ λ _. refl
      | false ↦ λ e. let outside = none_later p k q valid key from e less in cc
    ] refl

-- ---- the steps of the two searches

-- a key that is smaller than one before the prefix is before it
before_earlier : (p k q : Segments) → text_cmp k q ≡ Less → is_before p q ≡ true → is_before p k ≡ true
before_earlier p k q less before = ap is_lt (nat_list_cmp_total.trans (key_text k) (key_text q) (prefix_text p) less (less_of _ before))

-- a key that is greater than one not before the prefix is not before it
not_before_later : (p k q : Segments) → text_cmp k q ≡ Less → is_before p k ≡ false → is_before p q ≡ false
not_before_later p k q less from =
    elim (is_before p q) as (λ b. is_before p q ≡ b → b ≡ false) [
      | true ↦ λ e. let before = before_earlier p k q less e in cc
      | false ↦ λ _. refl
    ] refl

module _ {X : Type 0} (es : List (Segments × X)) (up : AreAscending es) (p : Segments) (middle : ℕ) (x : Segments × X) (is : x ≡ get_or es middle x) (inside : middle < length es) where
  -- where the key in the middle is before the prefix, all keys up to it are
  pub before_step : is_before p x.0 ≡ true → All (λ e. is_before p e.0 ≡ true) (take (middle + 1) es)
  before_step h =
      all_before (λ e. is_before p e.0 ≡ true) es (middle + 1) (omega (arith, inside))
      (up_to es up middle x is inside (λ e. is_before p e.0 ≡ true) h (λ a less. before_earlier p a.0 x.0 less h))

  -- where the key in the middle is not before the prefix, no key from it on is
  pub from_step : is_before p x.0 ≡ false → All (λ e. is_before p e.0 ≡ false) (drop middle es)
  from_step h =
      all_from (λ e. is_before p e.0 ≡ false) es middle (omega (arith, inside))
      (on_from es up middle x is inside (λ e. is_before p e.0 ≡ false) h (λ a less. not_before_later p x.0 a.0 less h))

  module _ (valid : IsPrefix p) (first : ℕ) (start : first ≤ middle) (from : All (λ e. is_before p e.0 ≡ false) (drop first es)) where
    pub within_step : is_below p x.0 ≡ true → All (λ e. is_below p e.0 ≡ true) (slice_range es first (middle + 1))
    within_step h =
        all_between (λ e. is_below p e.0 ≡ true) es first (middle + 1) (omega (arith, inside))
        (λ k d le lt.
        up_to es up middle x is inside (λ e. is_before p e.0 ≡ false → IsKey e.0 → is_below p e.0 ≡ true) (λ _ _. h)
        (λ a less not key. below_earlier p a.0 x.0 valid key not h less) k d lt
        (at_from (λ e. is_before p e.0 ≡ false) es first (omega (arith, start, inside)) from k d le (omega (arith, lt, inside)))
        (up.valid k d (omega (arith, lt, inside))))

    pub behind_step : is_below p x.0 ≡ false → All (λ e. is_below p e.0 ≡ false) (drop middle es)
    behind_step h =
        let key = subst (λ (e : Segments × X). IsKey e.0) (sym is) (up.valid middle x inside) in
        let not = subst (λ (e : Segments × X). is_before p e.0 ≡ false) (sym is)
        (at_from (λ e. is_before p e.0 ≡ false) es first (omega (arith, start, inside)) from middle x start inside) in
        all_from (λ e. is_below p e.0 ≡ false) es middle (omega (arith, inside))
        (on_from es up middle x is inside (λ e. is_below p e.0 ≡ false) h (λ a less. none_later p x.0 a.0 valid key not h less))

-- what both searches give
module _ {X : Type 0} (es : List (Segments × X)) (p : Segments) where
  -- the keys between two places are those of the entries between them
  keys_between : (i j : ℕ) → slice_range (keys_of es) i j ≡ keys_of (slice_range es i j)
  keys_between i j = ap (take (j - i)) (drop-map (λ (e : Segments × X). e.0) i es) ∙ take-map (λ (e : Segments × X). e.0) (j - i) (drop i es)

  -- places between which all keys are below the prefix, behind keys before it and ahead of keys not below, are its range
  pub range_is : (first end : ℕ) → first ≤ end → end ≤ length es → All (λ e. is_before p e.0 ≡ true) (take first es)
      → All (λ e. is_below p e.0 ≡ true) (slice_range es first end) → All (λ e. is_below p e.0 ≡ false) (drop end es) → IsRange (keys_of es) p first end
  range_is first end ordered inside before within behind = record {
    ordered = ordered;
    inside = omega (arith, inside, length-keys_of es);
    before = keys_before es (λ k. is_below p k ≡ false) first (λ i d l. before_not_below p (get_or (take first es) i d).0 (before i d l));
    within = subst (All (λ k. is_below p k ≡ true)) (sym (keys_between first end)) (All-map (λ k. is_below p k ≡ true) (λ (e : Segments × X). e.0) (slice_range es first end) within);
    behind = keys_from es (λ k. is_below p k ≡ false) end behind;
  }

-- ---- what a test keeps

-- a test that fails on each item keeps none
pub filter_none : {X : Type 0} (t : X → Bool) (xs : List X) → All (λ x. t x ≡ false) xs → filter t xs ≡ []
filter_none t [] h = refl
filter_none t (x ∷ xs) h = ap (λ b. cond b (x ∷ filter t xs) (filter t xs)) (All-head (λ x. t x ≡ false) x xs h) ∙ filter_none t xs (All-tail (λ x. t x ≡ false) x xs h)

-- a function that gives nothing of each item gives nothing
pub filter_map_none : {X Y : Type 0} (h : X → Option Y) (xs : List X) → All (λ x. h x ≡ None) xs → filter_map h xs ≡ []
filter_map_none h [] all = refl
filter_map_none h (x ∷ xs) all = ap (λ o. cons_option o (filter_map h xs)) (All-head (λ x. h x ≡ None) x xs all) ∙ filter_map_none h xs (All-tail (λ x. h x ≡ None) x xs all)

-- a test that each item passes keeps all
filter_all : {X : Type 0} (t : X → Bool) (xs : List X) → All (λ x. t x ≡ true) xs → filter t xs ≡ xs
filter_all t [] h = refl
filter_all t (x ∷ xs) h =
    ap (λ b. cond b (x ∷ filter t xs) (filter t xs)) (All-head (λ x. t x ≡ true) x xs h) ∙ ap (λ r. x ∷ r) (filter_all t xs (All-tail (λ x. t x ≡ true) x xs h))

module _ {X Y : Type 0} (f : X → Y) (es : List (Segments × X)) (p : Segments) (first end : ℕ) (range : IsRange (keys_of (shown f es)) p first end) where
  -- the range is that of the keys of the entries
  own : IsRange (keys_of es) p first end
  own = subst (λ ks. IsRange ks p first end) (keys_of-shown f es) range

  -- the keys in the range
  abbrev ks : List Segments
  ks = keys_of (slice_range es first end)

  -- the keys in the range are below the prefix
  within : All (λ k. is_below p k ≡ true) ks
  within = subst (All (λ k. is_below p k ≡ true)) (keys_between es p first end) own.within

  -- the keys are those before the range, those in it and those behind it
  whole : keys_of es ≡ take first (keys_of es) ++ (ks ++ drop end (keys_of es))
  whole = split_between (keys_of es) first end own.ordered ∙ ap (λ x. take first (keys_of es) ++ (x ++ drop end (keys_of es))) (keys_between es p first end)

  -- a test that no key outside passes keeps the same of the range as of all
  pub range_filter : (t : Segments → Bool) → ((k : Segments) → is_below p k ≡ false → t k ≡ false) → filter t ks ≡ filter t (keys_of es)
  range_filter t outside =
      sym (ap (filter t) whole ∙ filter-append t (take first (keys_of es)) (ks ++ drop end (keys_of es))
      ∙ ap (λ x. x ++ filter t (ks ++ drop end (keys_of es))) (filter_none t (take first (keys_of es)) (λ i d l. outside (get_or (take first (keys_of es)) i d) (own.before i d l)))
      ∙ filter-append t ks (drop end (keys_of es))
      ∙ ap (λ x. filter t ks ++ x) (filter_none t (drop end (keys_of es)) (λ i d l. outside (get_or (drop end (keys_of es)) i d) (own.behind i d l)))
      ∙ append-nil (filter t ks))

  -- all keys below the prefix are those in the range
  pub range_below : filter (is_below p) (keys_of es) ≡ ks
  range_below = sym (range_filter (is_below p) (λ k e. e)) ∙ filter_all (is_below p) ks within

  -- they are as many as the range is long
  pub range_count : keys_below p (keys_of es) ≡ end - first
  range_count = ap length range_below ∙ sym (ap length (keys_between es p first end)) ∙ length-between (keys_of es) first end own.inside

-- outside there is no child key
pub no_child_key : (p k : Segments) → is_below p k ≡ false → is_child_key p k ≡ false
no_child_key p k e = ap is_one (not_some (beyond p k) e)

-- and no child
pub no_child : (p k : Segments) → is_below p k ≡ false → child_name p k ≡ None
no_child p k e = ap first_of_more (not_some (beyond p k) e)

-- ---- one step of a walk

-- at the end of the entries none is left
pub none_left : {X : Type 0} (i : ℕ) (es : List (Segments × X)) → length es ≤ i → keys_of (drop i es) ≡ []
none_left i es past = ap (λ r. keys_of r) (drop_all i es past)

-- what is left at a place is what stands there, and what is left behind it
pub left_at : {X : Type 0} (i : ℕ) (es : List (Segments × X)) (x : Segments × X) → i < length es → x ≡ get_or es i x → drop i es ≡ (x.0, x.1) ∷ drop (i + 1) es
left_at i es x inside is =
    let next : suc i ≡ i + 1 = omega arith in
    drop-cons es i x inside ∙ ap (λ y. y ∷ drop (suc i) es) (sym is) ∙ ap (λ j. x ∷ drop j es) next

module _ {X : Type 0} (k : Segments) (v : X) (es rest : List (Segments × X)) (is : es ≡ (k, v) ∷ rest) where
  -- a key that passes is kept
  pub kept_step : (t : Segments → Bool) (q : Segments) (xs ys zs : List Segments) → t k ≡ true → ys ≡ xs ++ q ∷ [] → q ≡ k
      → xs ++ filter t (keys_of es) ≡ zs → ys ++ filter t (keys_of rest) ≡ zs
  kept_step t q xs ys zs passes pushed same h =
      ap (λ y. y ++ filter t (keys_of rest)) (pushed ∙ ap (λ x. xs ++ x ∷ []) same) ∙ append_assoc xs (k ∷ []) (filter t (keys_of rest))
      ∙ ap (λ b. xs ++ cond b (k ∷ filter t (keys_of rest)) (filter t (keys_of rest))) (sym passes)
      ∙ ap (λ e. xs ++ filter t (keys_of e)) (sym is) ∙ h

  -- a key that does not pass is not
  pub dropped_step : (t : Segments → Bool) (xs zs : List Segments) → t k ≡ false → xs ++ filter t (keys_of es) ≡ zs → xs ++ filter t (keys_of rest) ≡ zs
  dropped_step t xs zs fails h =
      ap (λ b. xs ++ cond b (k ∷ filter t (keys_of rest)) (filter t (keys_of rest))) (sym fails) ∙ ap (λ e. xs ++ filter t (keys_of e)) (sym is) ∙ h

-- of two segments or more there is not just one
one_of_more : (o : Option Segments) (n : List ℕ) → first_of_more o ≡ Some n → is_one o ≡ false
one_of_more None n e = cc
one_of_more (Some []) n e = refl
one_of_more (Some (m ∷ [])) n e = cc
one_of_more (Some (m ∷ u ∷ r)) n e = refl

-- what has a segment and no second has just one
lone : (n : List ℕ) (r : Segments) → first_of_more (Some (n ∷ r)) ≡ None → is_one (Some (n ∷ r)) ≡ true
lone n [] e = refl
lone n (m ∷ r) e = cc

-- a key in a child is no child key
pub not_child_key : (p k : Segments) (n : List ℕ) → child_name p k ≡ Some n → is_child_key p k ≡ false
not_child_key p k n e = one_of_more (beyond p k) n e

-- a key below the prefix that is in no child is a child key
pub child_key_from : (p k : Segments) → child_name p k ≡ None → is_below p k ≡ true → is_child_key p k ≡ true
child_key_from p k e below =
    elim (beyond p k) as (λ o. beyond p k ≡ o → first_of_more o ≡ None → is_some o ≡ true → is_one o ≡ true) [
      | None ↦ λ _ _ f. cc
      | Some r ↦ λ some none _.
          let b = from_beyond p k r some in
          ap (λ x. is_one (Some x)) b.found ∙ lone b.name b.more (sym (ap (λ x. first_of_more (Some x)) b.found) ∙ none)
    ] refl e below
