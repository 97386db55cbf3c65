-- The keys in one child stand together: a walk that passes over them at once, and how many comparisons it makes.
use Rattle.std.proofs.Common.{◌≡◌, ⊎_elim, true≢false, ℕ, ◌+◌, ◌-◌, ◌*◌, ◌<◌, ◌≤◌, true, false, cond, List, [], ◌∷◌, ◌++◌, length, get_or, take, drop, slice_range, refl, sym, ap, subst, ◌∙◌, append_assoc, Some, None, arith}
use Rattle.std.specs.Prelude.{All, Bool, filter, filter_map, is_some, map, max}
use Rattle.std.specs.List.{dedup, dedup_from, cons_option}
use Rattle.std.specs.Map.{keys_of}
use Rattle.std.proofs.lemmas.Bool.Decides.{leb_tells}
use Rattle.std.proofs.lemmas.Slice.Eq.{bytes_eq-Decides}
use Rattle.std.proofs.lemmas.List.{get_or-map, get_or-drop, length-drop, take-append-drop, drop-drop, drop-map, map-append}
use Rattle.std.proofs.lemmas.List.Edits.{get_or-between, length-between}
use Rattle.std.proofs.lemmas.List.Elements.{All-head, All-tail, All-drop, All-map, filter-append, filter_map-append}
use Rattle.std.proofs.lemmas.Map.Entries.{length-keys_of}
use Rattle.zarrs_store.specs.Segments.{Segments, bytes_eq}
use Rattle.zarrs_store.specs.Entries.{beyond, is_below}
use Rattle.zarrs_store.specs.StepsOfStores.{is_child_key, first_of_more, child_name, child_of, child_names, child_prefixes}
use Rattle.zarrs_store.specs.Places.{AreAscending, IsRange, digits}
use Rattle.zarrs_store.proofs.BelowLemmas.{beyond-append, from_beyond}
use Rattle.zarrs_store.proofs.Digits.{digits_least, digits_mono, digits_at_most}
use Rattle.zarrs_store.proofs.ListLemmas.{All-filter_map, is_in}
use Rattle.zarrs_store.proofs.Ranges.{is_before, before_not_below, from_step, filter_none, filter_map_none, no_child, not_child_key, dropped_step}

-- ---- keys in a child

-- a key below the child has its name
below_child : (p k : Segments) (n : List ℕ) → is_below (child_of p n) k ≡ true → child_name p k ≡ Some n
below_child p k n below =
    elim (beyond (child_of p n) k) as (λ o. beyond (child_of p n) k ≡ o → is_some o ≡ true → child_name p k ≡ Some n) [
      | None ↦ λ _ f. cc
      | Some r ↦ λ some _.
          let h = from_beyond (child_of p n) k r some in
          ap first_of_more (ap (beyond p) (h.is ∙ append_assoc p (n ∷ []) (h.name ∷ h.more)) ∙ beyond-append p n (h.name ∷ h.more))
    ] refl below

-- and a key that has its name is below it
pub in_child : (p k : Segments) (n : List ℕ) → child_name p k ≡ Some n → is_below (child_of p n) k ≡ true
in_child p k n e =
    let h = is_in p k n e in
    ap is_some (ap (beyond (child_of p n)) (h.is ∙ sym (append_assoc p (n ∷ []) (h.next ∷ h.rest))) ∙ beyond-append (child_of p n) h.next h.rest)

-- the name of a key below the child is the child's
same_child : (p k : Segments) (n m : List ℕ) → is_below (child_of p n) k ≡ true → child_name p k ≡ Some m → bytes_eq m n ≡ true
same_child p k n m below e =
    let both : Some m ≡ Some n = sym e ∙ below_child p k n below in
    let same : m ≡ n = cc in
    (bytes_eq-Decides m n).1 same

-- the name of another key is not
other_child : (p k : Segments) (n m : List ℕ) → is_below (child_of p n) k ≡ false → child_name p k ≡ Some m → bytes_eq m n ≡ false
other_child p k n m outside e =
    elim (bytes_eq m n) as (λ b. bytes_eq m n ≡ b → b ≡ false) [
      | true ↦ λ f.
          let same : m ≡ n = (bytes_eq-Decides m n).0 f in
          let below = in_child p k n (e ∙ ap Some same) in
          cc
      | false ↦ λ _. refl
    ] refl

-- a key below a prefix is not before it
below_not_before : (p k : Segments) → is_below p k ≡ true → is_before p k ≡ false
below_not_before p k below =
    elim (is_before p k) as (λ b. is_before p k ≡ b → b ≡ false) [
      | true ↦ λ e. let outside = before_not_below p k e in cc
      | false ↦ λ _. refl
    ] refl

-- behind a key in the child no key is before the child
pub child_from : {X : Type 0} (es : List (Segments × X)) → AreAscending es → (p : Segments) (n : List ℕ) (i j : ℕ) (x : Segments × X)
    → x ≡ get_or es i x → i < length es → j ≡ i + 1 → child_name p x.0 ≡ Some n → All (λ e. is_before (child_of p n) e.0 ≡ false) (drop j es)
child_from es up p n i j x is inside next name =
    let from = from_step es up (child_of p n) i x is inside (below_not_before (child_of p n) x.0 (in_child p x.0 n name)) in
    subst (All (λ e. is_before (child_of p n) e.0 ≡ false)) (drop-drop 1 i es ∙ ap (λ k. drop k es) (sym next))
    (All-drop (λ e. is_before (child_of p n) e.0 ≡ false) 1 (drop i es) from)

-- ---- the names of children behind a stretch of keys in one

-- after a name come the same, and then others: the name is kept once
dedup_run : (n : List ℕ) (ms ns : List (List ℕ)) → All (λ m. bytes_eq m n ≡ true) ms → All (λ m. bytes_eq m n ≡ false) ns
    → dedup_from bytes_eq n (ms ++ ns) ≡ n ∷ dedup bytes_eq ns
dedup_run n [] [] same other = refl
dedup_run n [] (m ∷ ns) same other = ap (λ b. cond b (dedup_from bytes_eq n ns) (n ∷ dedup_from bytes_eq m ns)) (All-head (λ m. bytes_eq m n ≡ false) m ns other)
dedup_run n (m ∷ ms) ns same other =
    ap (λ b. cond b (dedup_from bytes_eq n (ms ++ ns)) (n ∷ dedup_from bytes_eq m (ms ++ ns))) (All-head (λ m. bytes_eq m n ≡ true) m ms same)
    ∙ dedup_run n ms ns (All-tail (λ m. bytes_eq m n ≡ true) m ms same) other

-- the names of keys below the child, and of keys that are not
names_run : (p : Segments) (n : List ℕ) (ks qs : List Segments) → All (λ k. is_below (child_of p n) k ≡ true) ks → All (λ k. is_below (child_of p n) k ≡ false) qs
    → dedup_from bytes_eq n (filter_map (child_name p) (ks ++ qs)) ≡ n ∷ child_names p qs
names_run p n ks qs below outside =
    ap (dedup_from bytes_eq n) (filter_map-append (child_name p) ks qs)
    ∙ dedup_run n (filter_map (child_name p) ks) (filter_map (child_name p) qs)
    (All-filter_map (child_name p) (λ k. is_below (child_of p n) k ≡ true) (λ m. bytes_eq m n ≡ true) (λ k m. same_child p k n m) ks below)
    (All-filter_map (child_name p) (λ k. is_below (child_of p n) k ≡ false) (λ m. bytes_eq m n ≡ false) (λ k m. other_child p k n m) qs outside)

-- ---- one step of the walk

-- a key that stands in no child adds none
pub no_child_step : {X : Type 0} (p k : Segments) (v : X) (es rest : List (Segments × X)) → es ≡ (k, v) ∷ rest → child_name p k ≡ None → (xs zs : List Segments)
    → xs ++ child_prefixes p (keys_of es) ≡ zs → xs ++ child_prefixes p (keys_of rest) ≡ zs
no_child_step p k v es rest is none xs zs h =
    ap (λ o. xs ++ map (child_of p) (dedup bytes_eq (cons_option o (filter_map (child_name p) (keys_of rest))))) (sym none)
    ∙ ap (λ x. xs ++ child_prefixes p (keys_of x)) (sym is) ∙ h

module _ {X : Type 0} (es : List (Segments × X)) (p : Segments) (n : List ℕ) (i j end : ℕ) (le : j ≤ end)
    (run : All (λ x. is_below (child_of p n) x.0 ≡ true) (slice_range es j end))
    (rest : All (λ x. is_below (child_of p n) x.0 ≡ false) (drop end es)) where
  -- the keys from j on are those of the stretch, and the rest
  split : keys_of (drop j es) ≡ keys_of (slice_range es j end) ++ keys_of (drop end es)
  split =
      let same : j + (end - j) ≡ end = omega (arith, le) in
      ap (λ r. keys_of r) (sym (take-append-drop (end - j) (drop j es)) ∙ ap (λ r. slice_range es j end ++ r) (drop-drop (end - j) j es ∙ ap (λ k. drop k es) same))
      ∙ map-append (λ (e : Segments × X). e.0) (slice_range es j end) (drop end es)

  -- the keys of the stretch are below the child
  keys_run : All (λ k. is_below (child_of p n) k ≡ true) (keys_of (slice_range es j end))
  keys_run = All-map (λ k. is_below (child_of p n) k ≡ true) (λ (e : Segments × X). e.0) (slice_range es j end) run

  -- the keys of the rest are not below the child
  keys_rest : All (λ k. is_below (child_of p n) k ≡ false) (keys_of (drop end es))
  keys_rest = All-map (λ k. is_below (child_of p n) k ≡ false) (λ (e : Segments × X). e.0) (drop end es) rest

  module _ (x : Segments × X) (left : drop i es ≡ (x.0, x.1) ∷ drop j es) (name : child_name p x.0 ≡ Some n) where
    -- none of the keys in the child is a key directly below the prefix
    pub run_keys : (xs zs : List Segments) → xs ++ filter (is_child_key p) (keys_of (drop i es)) ≡ zs → xs ++ filter (is_child_key p) (keys_of (drop end es)) ≡ zs
    run_keys xs zs h =
        ap (λ r. xs ++ r) (sym (ap (filter (is_child_key p)) split
        ∙ filter-append (is_child_key p) (keys_of (slice_range es j end)) (keys_of (drop end es))
        ∙ ap (λ r. r ++ filter (is_child_key p) (keys_of (drop end es)))
        (filter_none (is_child_key p) (keys_of (slice_range es j end)) (λ k d l. not_child_key p _ n (below_child p _ n (keys_run k d l))))))
        ∙ dropped_step x.0 x.1 (drop i es) (drop j es) left (is_child_key p) xs zs (not_child_key p x.0 n name) h

    -- they add the child, once
    pub run_child : (c : Segments) (xs ys zs : List Segments) → ys ≡ xs ++ c ∷ [] → c ≡ child_of p n → xs ++ child_prefixes p (keys_of (drop i es)) ≡ zs
        → ys ++ child_prefixes p (keys_of (drop end es)) ≡ zs
    run_child c xs ys zs pushed same h =
        ap (λ y. y ++ child_prefixes p (keys_of (drop end es))) (pushed ∙ ap (λ d. xs ++ d ∷ []) same)
        ∙ append_assoc xs (child_of p n ∷ []) (child_prefixes p (keys_of (drop end es)))
        ∙ ap (λ ns. xs ++ map (child_of p) ns)
        (sym (ap (λ ks. dedup_from bytes_eq n (filter_map (child_name p) ks)) split
        ∙ names_run p n (keys_of (slice_range es j end)) (keys_of (drop end es)) keys_run keys_rest))
        ∙ ap (λ o. xs ++ map (child_of p) (dedup bytes_eq (cons_option o (filter_map (child_name p) (keys_of (drop j es)))))) (sym name)
        ∙ ap (λ r. xs ++ child_prefixes p (keys_of r)) (sym left) ∙ h

-- ---- the walk's beginning and its end

module _ {X : Type 0} (es : List (Segments × X)) (p : Segments) (first end : ℕ) (range : IsRange (keys_of es) p first end) where
  -- the range lies in the entries
  pub range_ends : end ≤ length es
  range_ends = omega (arith, range.inside, length-keys_of es)

  -- it begins in them
  pub range_begins : first ≤ length es
  range_begins = omega (arith, range.ordered, range_ends)

  -- what stands in the range is below the prefix
  pub below_there : (i : ℕ) (x : Segments × X) → first ≤ i → i < end → x ≡ get_or es i x → is_below p x.0 ≡ true
  below_there i x le lt is =
      let same : first + (i - first) ≡ i = omega (arith, le) in
      let inside : i < length es = omega (arith, lt, range_ends) in
      let before : first + (i - first) < end = omega (arith, le, lt) in
      let within = range.within (i - first) x.0 (omega (arith, le, lt, length-between (keys_of es) first end range.inside)) in
      ap (λ (e : Segments × X). is_below p e.0) is ∙ ap (is_below p) (sym (get_or-map (λ (e : Segments × X). e.0) es i x x.0 inside))
      ∙ ap (λ j. is_below p (get_or (keys_of es) j x.0)) (sym same)
      ∙ ap (is_below p) (sym (get_or-between (keys_of es) first end (i - first) x.0 before)) ∙ within

  -- a stretch of keys in one child that begins in the range ends in it
  pub run_inside : (n : List ℕ) (d : Segments × X) (i e : ℕ) → first ≤ i → i ≤ end → e ≤ length es → All (λ x. is_below (child_of p n) x.0 ≡ true) (slice_range es i e) → e ≤ end
  run_inside n d i e low le within run = ⊎_elim (λ t. t.1) (λ f. absurd (true≢false (ap is_some (sym (named f.1) ∙ unnamed f.1)))) (leb_tells e end)
    where
      -- the key behind the range would have the child's name
      named : end < e → child_name p (get_or es end d).0 ≡ Some n
      named lt =
          let same : i + (end - i) ≡ end = omega (arith, le) in
          let there : i + (end - i) < e = omega (arith, le, lt) in
          let at = run (end - i) d (omega (arith, le, lt, length-between es i e within)) in
          below_child p (get_or es end d).0 n
          (ap (λ (x : Segments × X). is_below (child_of p n) x.0) (sym (get_or-between es i e (end - i) d there ∙ ap (λ j. get_or es j d) same)) ∙ at)

      -- and has none
      unnamed : end < e → child_name p (get_or es end d).0 ≡ None
      unnamed lt =
          let inside : end < length es = omega (arith, lt, within) in
          let same : end + 0 ≡ end = omega arith in
          let at = range.behind 0 d.0 (omega (arith, inside, length-drop end (keys_of es), length-keys_of es)) in
          no_child p (get_or es end d).0
          (ap (is_below p) (sym (get_or-drop end (keys_of es) 0 d.0 ∙ ap (λ j. get_or (keys_of es) j d.0) same ∙ get_or-map (λ (e : Segments × X). e.0) es end d d.0 inside)) ∙ at)

  -- from the first on stand all that pass a test that no key outside passes
  pub first_keys : (t : Segments → Bool) → ((k : Segments) → is_below p k ≡ false → t k ≡ false) → filter t (keys_of (drop first es)) ≡ filter t (keys_of es)
  first_keys t outside =
      sym (ap (filter t) (sym (take-append-drop first (keys_of es))) ∙ filter-append t (take first (keys_of es)) (drop first (keys_of es))
      ∙ ap (λ r. r ++ filter t (drop first (keys_of es))) (filter_none t (take first (keys_of es)) (λ i d l. outside _ (range.before i d l)))
      ∙ ap (filter t) (drop-map (λ (e : Segments × X). e.0) first es))

  -- and all children
  pub first_children : child_prefixes p (keys_of (drop first es)) ≡ child_prefixes p (keys_of es)
  first_children =
      ap (λ ns. map (child_of p) (dedup bytes_eq ns))
      (sym (ap (filter_map (child_name p)) (sym (take-append-drop first (keys_of es))) ∙ filter_map-append (child_name p) (take first (keys_of es)) (drop first (keys_of es))
      ∙ ap (λ r. r ++ filter_map (child_name p) (drop first (keys_of es))) (filter_map_none (child_name p) (take first (keys_of es)) (λ i d l. no_child p _ (range.before i d l)))
      ∙ ap (filter_map (child_name p)) (drop-map (λ (e : Segments × X). e.0) first es)))

  module _ (i : ℕ) (past : end ≤ i) where
    -- behind the range no key is below the prefix
    none_below : All (λ k. is_below p k ≡ false) (keys_of (drop i es))
    none_below =
        let same : end + (i - end) ≡ i = omega (arith, past) in
        subst (All (λ k. is_below p k ≡ false)) (drop-drop (i - end) end (keys_of es) ∙ ap (λ j. drop j (keys_of es)) same ∙ drop-map (λ (e : Segments × X). e.0) i es)
        (All-drop (λ k. is_below p k ≡ false) (i - end) (drop end (keys_of es)) range.behind)

    -- none passes the test
    pub last_keys : (t : Segments → Bool) → ((k : Segments) → is_below p k ≡ false → t k ≡ false) → filter t (keys_of (drop i es)) ≡ []
    last_keys t outside = filter_none t (keys_of (drop i es)) (λ k d l. outside _ (none_below k d l))

    -- and none stands in a child
    pub last_children : child_prefixes p (keys_of (drop i es)) ≡ []
    last_children =
        ap (λ ns. map (child_of p) (dedup bytes_eq ns)) (filter_map_none (child_name p) (keys_of (drop i es)) (λ k d l. no_child p _ (none_below k d l)))

-- ---- how many comparisons the walk makes

-- by the keys and the children that it answers
pub many_step : (count compared keys prefixes more run n : ℕ) → count ≤ keys + prefixes + prefixes * (2 * digits n) → compared ≤ max 1 (2 * digits run)
    → run < n → more ≡ prefixes + 1 → count + 1 + compared ≤ keys + more + more * (2 * digits n)
many_step count compared keys prefixes more run n bounded h lt next =
    subst (λ m. count + 1 + compared ≤ keys + m + m * (2 * digits n)) (sym next)
    (omega (arith, bounded, h, digits_mono run n (omega (arith, lt)), digits_least n 1 (omega (arith, lt))))

-- by the keys that it passed
pub few_step : (count compared i end : ℕ) → count ≤ 2 * i → compared ≤ max 1 (2 * digits (end - (i + 1))) → i + 1 ≤ end → count + 1 + compared ≤ 2 * end
few_step count compared i end few h le = omega (arith, few, h, le, digits_at_most (end - (i + 1)))
