-- Entries in the order of their names: what a search finds, and what a change leaves.
use Rattle.std.proofs.Common.{◌≡◌, ◌==◌, ℕ, zero, suc, ◌+◌, ◌<◌, Bool, true, false, ◌||◌, List, [], ◌∷◌, ◌++◌, length, get_or, set, String, Global, string_bytes, string_cmp, nat_cmp, Less, Equal, Greater, Ordering, Some, None, Result, Ok, Err, IfOk, IfErr, is_eq, cond, if◌then◌else◌, refl, sym, ap, subst, ◌∙◌, arith}
use Rattle.std.proofs.lemmas.Bool.Decides.{nat_tests}
use Rattle.std.proofs.lemmas.Cmp.{nat_list_cmp_total, tied_itself}
use Rattle.std.proofs.lemmas.List.{get_or-map}
use Rattle.std.proofs.lemmas.List.Elements.{recursion_from_All}
use Rattle.std.proofs.lemmas.List.Sorted.{searchable_from_sorted}
use Rattle.std.proofs.lemmas.Map.Entries.{length-keys_of}
use Rattle.std.proofs.lemmas.Map.Keys.{Less-from_sorted}
use Rattle.std.proofs.lemmas.Map.Text.{is_eq-slice_cmp}
use Rattle.std.proofs.lemmas.Map.Views.{All-after_first, All-keys-insert_entry, All-map-remove_entry}
use Rattle.std.proofs.lemmas.Slice.Eq.{bytes_eq-Decides}
use Rattle.std.specs.BTreeMap.{insert_entry}
use Rattle.std.specs.Cmp.Lexicographic.{slice_cmp}
use Rattle.std.specs.List.{AllByRecursion, AllZip, insert, list_any, remove}
use Rattle.std.specs.List.Sorted.{IsBinarySearchResult, IsNonDecreasingBy, IsSearchInRange, IsStrictlySortedBy}
use Rattle.std.specs.Map.{keys_of, lookup, remove_entry}
use Rattle.std.specs.Ordering.{is_lt, match_ordering, ordering_index, ordering_reverse}
use Rattle.serde_json.specs.Data.{Data, member}
use Rattle.serde_json.specs.Events.{members_len}
use Rattle.serde_json.specs.View.{view, members_of, members_view}
use Rattle.serde_json.proofs.Views.{Entry}
use Rattle.zarrs_form.specs.Documents.{besides, has_own, is_empty, is_own}
use Rattle.zarrs_form.specs.SortedMembers.{NamesAscend}
use Rattle.zarrs_form.specs.StepsOfMembers.{IsNameAt, IsNameGap, at_name}
use Rattle.zarrs_form.proofs.FieldLaws.{absent_in, besides_removed}
use Rattle.zarrs_form.proofs.MemberLaws.{same_text}
use Rattle.zarrs_form.proofs.MemberLists.{above_first, members_by}

-- a name that is found is the name
same_name : (name other : List ℕ) → is_eq (slice_cmp nat_cmp name other) ≡ true → name ≡ other
same_name name other e = (bytes_eq-Decides name other).0 (sym (is_eq-slice_cmp name other) ∙ e)

-- two texts compared the other way round
turned : (a b : List ℕ) (o : Ordering) → slice_cmp nat_cmp a b ≡ o → slice_cmp nat_cmp b a ≡ ordering_reverse o
turned a b o e = nat_list_cmp_total.antisymm b a ∙ ap ordering_reverse e

module _ {X : Type 0} where
  -- ---- the search for a name

  -- the names at two places are in the places' order
  less_at : (es : List (String Global × X)) → NamesAscend es → (i j : ℕ) (d : String Global × X) → i < j → j < length es → string_cmp (get_or es i d).0 (get_or es j d).0 ≡ Less
  less_at es up i j d before inside =
      let long = length-keys_of es in
      let first = get_or-map (λ (e : String Global × X). e.0) es i d d.0 (omega (arith, before, inside)) in
      let second = get_or-map (λ (e : String Global × X). e.0) es j d d.0 inside in
      ap (λ k. string_cmp k (get_or es j d).0) (sym first) ∙ ap (string_cmp (get_or (keys_of es) i d.0)) (sym second)
      ∙ Less-from_sorted string_cmp (keys_of es) i j d.0 up before (omega (arith, inside, long))

  -- compared with one name, the names rise, as halving asks
  rises : (es : List (String Global × X)) → NamesAscend es → (name : List ℕ) → IsNonDecreasingBy (λ e. ordering_index (slice_cmp nat_cmp (string_bytes e.0) name)) es
  rises es up name = searchable_from_sorted nat_list_cmp_total (λ (e : String Global × X). string_bytes e.0) es name
      (λ k d a b. ap is_lt (turned (string_bytes (get_or es k d).0) (string_bytes (get_or es (k + 1) d).0) Less (less_at es up k (k + 1) d (omega arith) b)))

  -- a search by halving ends at the name
  pub search_found : (es : List (String Global × X)) (name : List ℕ) (r : Result ℕ ℕ) → IsSearchInRange r (length es) → IsBinarySearchResult (λ e. slice_cmp nat_cmp (string_bytes e.0) name) es r → IfOk r (IsNameAt es name)
  search_found es name (Ok i) inside at = record { inside = inside; is = λ d. same_text _ name (at d) }
  search_found es name (Err i) inside parted = tt

  -- or at the gap for it
  pub search_missed : (es : List (String Global × X)) → NamesAscend es → (name : List ℕ) (r : Result ℕ ℕ) → IsSearchInRange r (length es) → IsBinarySearchResult (λ e. slice_cmp nat_cmp (string_bytes e.0) name) es r → IfErr r (IsNameGap es name)
  search_missed es up name (Ok i) inside at = tt
  search_missed es up name (Err i) inside parted = let p = parted (rises es up name) in record { inside = inside; smaller = p.0; greater = p.1 }

  -- ---- where the name stands

  -- one place further
  at_tail : (e : String Global × X) (es : List (String Global × X)) (name : List ℕ) (i : ℕ) → IsNameAt (e ∷ es) name (suc i) → IsNameAt es name i
  at_tail e es name i at = record { inside = omega (arith, at.inside); is = at.is }

  -- the first name is the name, where it stands first
  tied_first : (e : String Global × X) (es : List (String Global × X)) (name : List ℕ) → IsNameAt (e ∷ es) name zero → slice_cmp nat_cmp name (string_bytes e.0) ≡ Equal
  tied_first e es name at = ap (slice_cmp nat_cmp name) (at.is e) ∙ tied_itself nat_list_cmp_total name

  -- and before it, where it stands later
  above_head : (e : String Global × X) (es : List (String Global × X)) (name : List ℕ) (i : ℕ) → NamesAscend (e ∷ es) → IsNameAt (e ∷ es) name (suc i) → slice_cmp nat_cmp name (string_bytes e.0) ≡ Greater
  above_head e es name i up at = turned (string_bytes e.0) name Less (subst (λ n. slice_cmp nat_cmp (string_bytes e.0) n ≡ Less) (at.is e) (less_at (e ∷ es) up 0 (suc i) e (omega arith) at.inside))

  -- the rest ascends too
  tail_ascends : (e : String Global × X) (es : List (String Global × X)) → NamesAscend (e ∷ es) → NamesAscend es
  unfolding IsStrictlySortedBy
  tail_ascends e es up = up.1

  -- the value there is the name's
  pub lookup_there : (es : List (String Global × X)) (name : List ℕ) (i : ℕ) (d : String Global × X) → NamesAscend es → IsNameAt es name i → lookup (at_name name) es ≡ Some (get_or es i d).1
  lookup_there [] name i d up at = absurd (omega (arith, at.inside))
  lookup_there (e ∷ es) name zero d up at = rw (tied_first e es name at) refl
  lookup_there (e ∷ es) name (suc i) d up at = rw (above_head e es name i up at) (lookup_there es name i d (tail_ascends e es up) (at_tail e es name i at))

  -- another value at a place
  put_at : (es : List (String Global × X)) (k : String Global) (v : X) (i : ℕ) (d : String Global × X) → NamesAscend es → IsNameAt es (string_bytes k) i → set es i ((get_or es i d).0, v) ≡ insert_entry string_cmp es k v
  put_at [] k v i d up at = absurd (omega (arith, at.inside))
  put_at (e ∷ es) k v zero d up at =
      let here : string_cmp k e.0 ≡ Equal = tied_first e es (string_bytes k) at in
      rw here refl
  put_at (e ∷ es) k v (suc i) d up at =
      let above : string_cmp k e.0 ≡ Greater = above_head e es (string_bytes k) i up at in
      rw above (ap (λ x. e ∷ x) (put_at es k v i d (tail_ascends e es up) (at_tail e es (string_bytes k) i at)))

  -- another value there, beside the name that was read there
  pub put_there : (es : List (String Global × X)) (k : String Global) (v : X) (i : ℕ) (x : String Global × X) → x ≡ get_or es i x → NamesAscend es → IsNameAt es (string_bytes k) i → set es i (x.0, v) ≡ insert_entry string_cmp es k v
  put_there es k v i x is up at = ap (λ (e : String Global × X). set es i (e.0, v)) is ∙ put_at es k v i x up at

  -- the entry there is taken away
  pub removed_there : (es : List (String Global × X)) (name : List ℕ) (i : ℕ) → NamesAscend es → IsNameAt es name i → remove es i ≡ remove_entry (at_name name) es
  removed_there [] name i up at = absurd (omega (arith, at.inside))
  removed_there (e ∷ es) name zero up at = rw (tied_first e es name at) refl
  removed_there (e ∷ es) name (suc i) up at = rw (above_head e es name i up at) (ap (λ x. e ∷ x) (removed_there es name i (tail_ascends e es up) (at_tail e es name i at)))

  -- ---- where it would stand

  -- one place further
  gap_tail : (e : String Global × X) (es : List (String Global × X)) (name : List ℕ) (i : ℕ) → IsNameGap (e ∷ es) name (suc i) → IsNameGap es name i
  gap_tail e es name i gap = record {
    inside = omega (arith, gap.inside);
    smaller = λ k d a b. gap.smaller (suc k) d (omega arith) (omega (arith, b));
    greater = λ k d a b. gap.greater (suc k) d (omega (arith, a)) (omega (arith, b));
  }

  -- before the first name it would stand before the second too
  gap_first : (e : String Global × X) (es : List (String Global × X)) (name : List ℕ) → IsNameGap (e ∷ es) name zero → IsNameGap es name zero
  gap_first e es name gap = record {
    inside = omega arith;
    smaller = λ k d a b. absurd (omega (arith, b));
    greater = λ k d a b. gap.greater (suc k) d (omega arith) (omega (arith, b));
  }

  -- a name that would stand before the first is below it
  below_head : (e : String Global × X) (es : List (String Global × X)) (name : List ℕ) → IsNameGap (e ∷ es) name zero → slice_cmp nat_cmp name (string_bytes e.0) ≡ Less
  below_head e es name gap = turned (string_bytes e.0) name Greater (gap.greater 0 e (omega arith) (omega arith))

  -- a name that would stand behind the first is above it
  behind_head : (e : String Global × X) (es : List (String Global × X)) (name : List ℕ) (i : ℕ) → IsNameGap (e ∷ es) name (suc i) → slice_cmp nat_cmp name (string_bytes e.0) ≡ Greater
  behind_head e es name i gap = turned (string_bytes e.0) name Less (gap.smaller 0 e (omega arith) (omega arith))

  -- nothing is found at the name
  pub lookup_missing : (es : List (String Global × X)) (name : List ℕ) (i : ℕ) → IsNameGap es name i → lookup (at_name name) es ≡ None
  lookup_missing [] name i gap = refl
  lookup_missing (e ∷ es) name zero gap = rw (below_head e es name gap) (lookup_missing es name zero (gap_first e es name gap))
  lookup_missing (e ∷ es) name (suc i) gap = rw (behind_head e es name i gap) (lookup_missing es name i (gap_tail e es name i gap))

  -- a value is put there
  pub put_in_gap : (es : List (String Global × X)) (k : String Global) (v : X) (i : ℕ) → IsNameGap es (string_bytes k) i → insert es i (k, v) ≡ insert_entry string_cmp es k v
  put_in_gap [] k v zero gap = refl
  put_in_gap [] k v (suc i) gap = absurd (omega (arith, gap.inside))
  put_in_gap (e ∷ es) k v zero gap =
      let below : string_cmp k e.0 ≡ Less = below_head e es (string_bytes k) gap in
      rw below refl
  put_in_gap (e ∷ es) k v (suc i) gap =
      let above : string_cmp k e.0 ≡ Greater = behind_head e es (string_bytes k) i gap in
      rw above (ap (λ x. e ∷ x) (put_in_gap es k v i (gap_tail e es (string_bytes k) i gap)))

  -- what is not found is not taken away
  pub kept_missing : (test : String Global → Bool) (es : List (String Global × X)) → lookup test es ≡ None → es ≡ remove_entry test es
  kept_missing test [] none = refl
  kept_missing test (e ∷ es) none =
      let parts = absent_in (test e.0) e.1 (lookup test es) none in
      rw parts.0 (ap (λ x. e ∷ x) (kept_missing test es parts.1))

  -- ---- the order after a change

  -- entries in the order of their names stay so when one is put
  pub ascending_put : (es : List (String Global × X)) (k : String Global) (v : X) → NamesAscend es → NamesAscend (insert_entry string_cmp es k v)
  unfolding IsStrictlySortedBy
  ascending_put [] k v up = (tt, tt)
  ascending_put (e ∷ es) k v up =
      let after = All-after_first string_cmp e.0 (keys_of es) up in
      elim (string_cmp k e.0) as (λ o. string_cmp k e.0 ≡ o → NamesAscend (match_ordering o ((k, v) ∷ e ∷ es) ((e.0, v) ∷ es) (e ∷ insert_entry string_cmp es k v))) [
        | Less ↦ λ is. (
          (
            is,
            recursion_from_All (λ y. string_cmp k y ≡ Less) (keys_of es)
                (λ j d l. nat_list_cmp_total.trans (string_bytes k) (string_bytes e.0) (string_bytes (get_or (keys_of es) j d)) is (after j d l)),
          ),
          up,
        )
        | Equal ↦ λ is. up
        | Greater ↦ λ is. (
          recursion_from_All (λ y. string_cmp e.0 y ≡ Less) (keys_of (insert_entry string_cmp es k v))
              (All-keys-insert_entry string_cmp k v (λ y. string_cmp e.0 y ≡ Less) es after (turned (string_bytes k) (string_bytes e.0) Greater is)),
          ascending_put es k v up.1,
        )
      ] refl

  -- entries in the order of their names stay so when one is taken away
  pub ascending_taken : (test : String Global → Bool) (es : List (String Global × X)) → NamesAscend es → NamesAscend (remove_entry test es)
  unfolding IsStrictlySortedBy
  ascending_taken test [] up = tt
  ascending_taken test (e ∷ es) up = elim (test e.0) as (λ b. NamesAscend (cond b es (e ∷ remove_entry test es))) [
    | true ↦ up.1
    | false ↦ (
      recursion_from_All (λ y. string_cmp e.0 y ≡ Less) (keys_of (remove_entry test es))
          (All-map-remove_entry test (λ x. x.0) (λ y. string_cmp e.0 y ≡ Less) es (All-after_first string_cmp e.0 (keys_of es) up)),
      ascending_taken test es up.1,
    )
  ]

  -- no entries ascend
  pub none_ascend : (es : List (String Global × X)) → es ≡ [] → NamesAscend es
  unfolding IsStrictlySortedBy
  none_ascend es is = subst NamesAscend (sym is) tt

  -- what is put behind all goes last
  pub put_behind_all : (done : List (String Global × X)) (e : String Global × X) (more : List (String Global × X)) → NamesAscend (done ++ e ∷ more) → insert_entry string_cmp done e.0 e.1 ≡ done ++ e ∷ []
  unfolding IsStrictlySortedBy
  put_behind_all [] e more up = refl
  put_behind_all (first ∷ done) e more up =
      let above : string_cmp e.0 first.0 ≡ Greater = above_first first done e more up.0 in
      rw above (ap (λ x. first ∷ x) (put_behind_all done e more up.1))

  -- ---- the name is gone

  -- no name behind a greater one is found
  none_above : (es : List (String Global × X)) (name : List ℕ) → AllByRecursion (λ y. slice_cmp nat_cmp name (string_bytes y) ≡ Less) (keys_of es) → lookup (at_name name) es ≡ None
  none_above [] name above = refl
  none_above (e ∷ es) name above = rw above.0 (none_above es name above.1)

  -- once taken away, the name is not found
  gone : (es : List (String Global × X)) (name : List ℕ) → NamesAscend es → lookup (at_name name) (remove_entry (at_name name) es) ≡ None
  unfolding IsStrictlySortedBy
  gone [] name up = refl
  gone (e ∷ es) name up = elim (at_name name e.0) as (λ b. at_name name e.0 ≡ b → lookup (at_name name) (cond b es (e ∷ remove_entry (at_name name) es)) ≡ None) [
    | true ↦ λ is. none_above es name (subst (λ n. AllByRecursion (λ y. slice_cmp nat_cmp n (string_bytes y) ≡ Less) (keys_of es)) (sym (same_name name (string_bytes e.0) is)) up.0)
    | false ↦ λ is. rw is (gone es name up.1)
  ] refl

-- ---- entries and the members that they are

-- the members that are left
pub members_left : {X : Type 0} (see : X → Data) (name : List ℕ) (es left : List (String Global × X)) → NamesAscend es → left ≡ remove_entry (at_name name) es → members_by see left ≡ besides (name ∷ []) (members_by see es)
members_left see name es left up is = ap (members_by see) is ∙ besides_removed see name es (gone es name up)

-- entries are none where the members are
pub none_of_members : {X : Type 0} (see : X → Data) (es : List (String Global × X)) → (length es == 0) ≡ is_empty (members_by see es)
none_of_members see [] = refl
none_of_members see (e ∷ es) = grind (arith, nat_tests)

-- the names of entries are those of the members
pub own_of_members : {X : Type 0} (see : X → Data) (names : List (List ℕ)) (es : List (String Global × X)) → list_any (λ k. is_own names (string_bytes k)) (keys_of es) ≡ has_own names (members_by see es)
own_of_members see names [] = refl
own_of_members see names (e ∷ es) = ap (λ b. is_own names (string_bytes e.0) || b) (own_of_members see names es)

-- entries are as many as the members
pub len_of_members : {X : Type 0} (see : X → Data) (es : List (String Global × X)) → length es ≡ members_len (members_by see es)
len_of_members see [] = refl
len_of_members see (e ∷ es) = ap suc (len_of_members see es)

-- ---- copies

module _ {X : Type 0} (IsCopy : X → X → Type 0) where
  -- names stay below copies of names
  copies_below : (k l : String Global) (es fs : List (String Global × X)) → string_bytes l ≡ string_bytes k → AllZip (λ e f. (string_bytes f.0 ≡ string_bytes e.0) × IsCopy e.1 f.1) es fs
      → AllByRecursion (λ y. string_cmp k y ≡ Less) (keys_of es) → AllByRecursion (λ y. string_cmp l y ≡ Less) (keys_of fs)
  copies_below k l [] [] same zip below = tt
  copies_below k l [] (f ∷ fs) same zip below = absurd zip
  copies_below k l (e ∷ es) [] same zip below = absurd zip
  copies_below k l (e ∷ es) (f ∷ fs) same zip below = (
    ap (λ n. slice_cmp nat_cmp n (string_bytes f.0)) same ∙ ap (slice_cmp nat_cmp (string_bytes k)) zip.0.0 ∙ below.0,
    copies_below k l es fs same zip.1 below.1,
  )

  -- copies of entries stand in their order
  pub copies_ascend : (es fs : List (String Global × X)) → AllZip (λ e f. (string_bytes f.0 ≡ string_bytes e.0) × IsCopy e.1 f.1) es fs → NamesAscend es → NamesAscend fs
  unfolding IsStrictlySortedBy
  copies_ascend [] [] zip up = tt
  copies_ascend [] (f ∷ fs) zip up = absurd zip
  copies_ascend (e ∷ es) [] zip up = absurd zip
  copies_ascend (e ∷ es) (f ∷ fs) zip up = (copies_below e.0 f.0 es fs zip.0.0 zip.1 up.0, copies_ascend es fs zip.1 up.1)

-- ---- the fields among members

-- the entries that have none of the names, their values as data
abbrev pub kept : List (List ℕ) → List Entry → List (String Global × Data)
kept names [] = []
kept names (e ∷ es) = if is_own names (string_bytes e.0) then kept names es else (e.0, view e.1) ∷ kept names es

-- they are the members besides those names
pub members_kept : (names : List (List ℕ)) (es : List Entry) → members_of (kept names es) ≡ besides names (members_view es)
members_kept names [] = refl
members_kept names (e ∷ es) = elim (is_own names (string_bytes e.0)) as (λ b. members_of (if b then kept names es else (e.0, view e.1) ∷ kept names es) ≡ (if b then besides names (members_view es) else member (string_bytes e.0) (view e.1) (besides names (members_view es)))) [
  | true ↦ members_kept names es
  | false ↦ ap (member (string_bytes e.0) (view e.1)) (members_kept names es)
]

-- what holds of all names holds of theirs
kept_below : (P : String Global → Type 0) (names : List (List ℕ)) (es : List Entry) → AllByRecursion P (keys_of es) → AllByRecursion P (keys_of (kept names es))
kept_below P names [] h = tt
kept_below P names (e ∷ es) h = elim (is_own names (string_bytes e.0)) as (λ b. AllByRecursion P (keys_of (if b then kept names es else (e.0, view e.1) ∷ kept names es))) [
  | true ↦ kept_below P names es h.1
  | false ↦ (h.0, kept_below P names es h.1)
]

-- and they stand in the same order
pub kept_ascend : (names : List (List ℕ)) (es : List Entry) → NamesAscend es → NamesAscend (kept names es)
unfolding IsStrictlySortedBy
kept_ascend names [] up = tt
kept_ascend names (e ∷ es) up = elim (is_own names (string_bytes e.0)) as (λ b. NamesAscend (if b then kept names es else (e.0, view e.1) ∷ kept names es)) [
  | true ↦ kept_ascend names es up.1
  | false ↦ (kept_below (λ y. string_cmp e.0 y ≡ Less) names es up.0, kept_ascend names es up.1)
]

-- one that is kept, and one that is not
pub kept_first : (names : List (List ℕ)) (e : Entry) (es : List Entry) → is_own names (string_bytes e.0) ≡ false → kept names (e ∷ es) ≡ (e.0, view e.1) ∷ kept names es
kept_first names e es other = rw other refl

-- a first entry that has one of the names is not kept
pub own_first : (names : List (List ℕ)) (e : Entry) (es : List Entry) → is_own names (string_bytes e.0) ≡ true → kept names (e ∷ es) ≡ kept names es
own_first names e es own = rw own refl
