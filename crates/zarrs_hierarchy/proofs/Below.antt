-- Which pairs of an ordered list stand below a path, and where they end.
use Rattle.std.proofs.Common.{◌≡◌, ◌≢◌, ◌↔◌, ◌⊎◌, inl, inr, ◌-◌, ◌≤◌, ℕ, zero, suc, cond, take, get_or, Bool, true, false, ◌&&◌, List, [], ◌∷◌, ◌++◌, length, refl, sym, ap, subst, ◌∙◌, ⊎_elim, arith, length-append, append_assoc, append-nil, Contains, IsTrue, Ordering, Less, Equal, Greater, true≢false}
use Rattle.std.specs.Prelude.{bytes_eq}
use Rattle.std.specs.List.{AllByRecursion, filter}
use Rattle.std.specs.List.Sorted.{IsStrictlySortedBy, IsPartitionedBy, IsPartitionPoint}
use Rattle.std.specs.Map.{keys_of}
use Rattle.std.specs.Ordering.{ordering_then, ordering_reverse, is_lt}
use Rattle.std.specs.Cmp.{tied_itself}
use Rattle.std.specs.Cmp.Lexicographic.{nat_list_cmp_total}
use Rattle.std.proofs.lemmas.Bool.{false_from_ne_true}
use Rattle.std.proofs.lemmas.Bool.Decides.{eqb_tells}
use Rattle.std.proofs.lemmas.List.Elements.{Contains-get_or}
use Rattle.std.proofs.lemmas.List.Kept.{AllPairs-filter}
use Rattle.std.proofs.lemmas.Map.Lookups.{exact_bytes}
use Rattle.std.proofs.lemmas.Slice.Eq.{bytes_eq-Decides}
use Rattle.zarrs_store.specs.Segments.{bytes_cmp}
use Rattle.zarrs_path.specs.Paths.{Path, IsBelow, path_cmp}
use Rattle.zarrs_meta.specs.declared.node.NodeMetadata.{NodeMetadata}
use Rattle.zarrs_node.specs.Order.{Ascend}
use Rattle.zarrs_node.specs.Lines.{line, lines, IsLines}
use Rattle.zarrs_node.proofs.ListedItems.{lists_from}
use Rattle.zarrs_node.proofs.ForestsBeside.{Contains-first, Contains-cons, path_cmp-append}
use Rattle.zarrs_node.proofs.Order.{contains_cases}
use Rattle.zarrs_node.proofs.LawProofs.{apart}
use Rattle.zarrs_hierarchy.specs.PairsOfHierarchies.{Pairs}
use Rattle.zarrs_hierarchy.specs.Tree.{is_path_below, pairs_below}
use Rattle.zarrs_hierarchy.specs.StepsOfHierarchies.{IsBehind, pairs_behind}
use Rattle.zarrs_hierarchy.proofs.Maps.{sorted}

-- nothing is below the root's own path
not_below : (b : Path) → IsBelow b [] → ⊥
not_below b (n, ns, e) =
    let long = ap length e in
    let more = length-append b (n ∷ ns) in
    absurd (omega (arith, long, more))

-- a name in front of both leaves what is below
pub below_tail : (m n : List ℕ) (b p : Path) → IsBelow (m ∷ b) (n ∷ p) → (m ≡ n) × IsBelow b p
below_tail m n b p (k, ks, e) = (sym (ap (first m) e), (k, ks, ap (rest []) e))
  where
    first : List ℕ → Path → List ℕ
    first d [] = d
    first d (x ∷ xs) = x

    rest : Path → Path → Path
    rest d [] = d
    rest d (x ∷ xs) = xs

-- and the other way round
pub below_head : (n : List ℕ) (b p : Path) → IsBelow b p → IsBelow (n ∷ b) (n ∷ p)
below_head n b p (k, ks, e) = (k, ks, ap (λ x. n ∷ x) e)

-- the test answers whether a path is below another
pub is_below_from : (b p : Path) → IsTrue (is_path_below b p) → IsBelow b p
is_below_from [] [] h = absurd (true≢false (sym h))
is_below_from (m ∷ b) [] h = absurd (true≢false (sym h))
is_below_from [] (n ∷ p) h = (n, p, refl)
is_below_from (m ∷ b) (n ∷ p) h = by (bytes_eq m n) refl (is_below_from b p) h
  where
    by : (t : Bool) → bytes_eq m n ≡ t → (IsTrue (is_path_below b p) → IsBelow b p) → IsTrue (t && is_path_below b p) → IsBelow (m ∷ b) (n ∷ p)
    by true e again k = subst (λ x. IsBelow (x ∷ b) (n ∷ p)) (sym ((bytes_eq-Decides m n).0 e)) (below_head n b p (again k))
    by false e again k = absurd (true≢false (sym k))

-- a path that is below another passes the test
pub is_below_of : (b p : Path) → IsBelow b p → IsTrue (is_path_below b p)
is_below_of b [] h = absurd (not_below b h)
is_below_of [] (n ∷ p) h = refl
is_below_of (m ∷ b) (n ∷ p) h =
    let w = below_tail m n b p h in
    ap (λ t. t && is_path_below b p) ((bytes_eq-Decides m n).1 w.0) ∙ is_below_of b p w.1

-- what is not below is told so
pub not_below_of : (b p : Path) → (IsBelow b p → ⊥) → is_path_below b p ≡ false
not_below_of b p h = false_from_ne_true (is_path_below b p) (λ t. h (is_below_from b p t))

-- a test that tells what is below is the test
pub told_below : (b p : Path) (r : Bool) → (IsTrue r ↔ IsBelow b p) → r ≡ is_path_below b p
told_below b p true h = sym (is_below_of b p (h.0 refl))
told_below b p false h = sym (not_below_of b p (λ low. true≢false (sym (h.1 low))))

-- ---- where the paths below b end

-- an order is not both
less_not_greater : (o : Ordering) → o ≡ Less → o ≡ Greater → ⊥
less_not_greater Less e f = absurd (true≢false (ap is_lt (sym e ∙ f)))
less_not_greater Equal e f = absurd (true≢false (sym (ap is_lt e)))
less_not_greater Greater e f = absurd (true≢false (sym (ap is_lt e)))

-- a path behind b that is not below it stands behind all that are
pub beyond : (b p q : Path) → path_cmp b p ≡ Less → (IsBelow b p → ⊥) → path_cmp p q ≡ Less → IsBelow b q → ⊥
beyond b p [] less out up low = not_below b low
beyond [] [] (z ∷ q) less out up low = true≢false (sym (ap is_lt less))
beyond [] (y ∷ p) (z ∷ q) less out up low = out (y, p, refl)
beyond (x ∷ b) [] (z ∷ q) less out up low = true≢false (sym (ap is_lt less))
beyond (x ∷ b) (y ∷ p) (z ∷ q) less out up low =
    let w = below_tail x z b q low in
    by (bytes_cmp x y) refl w.0 (λ l o u. beyond b p q l o u w.1)
  where
    by : (o : Ordering) → bytes_cmp x y ≡ o → x ≡ z → (path_cmp b p ≡ Less → (IsBelow b p → ⊥) → path_cmp p q ≡ Less → ⊥) → ⊥
    by Less e same again =
        let back : bytes_cmp y z ≡ Greater = ap (bytes_cmp y) (sym same) ∙ nat_list_cmp_total.antisymm y x ∙ ap ordering_reverse e in
        less_not_greater (path_cmp (y ∷ p) (z ∷ q)) up (ap (λ o. ordering_then o (path_cmp p q)) back)
    by Equal e same again =
        let equal : x ≡ y = exact_bytes x y e in
        let level : bytes_cmp y z ≡ Equal = ap (λ n. bytes_cmp n z) (sym equal) ∙ ap (λ n. bytes_cmp n z) same ∙ tied_itself nat_list_cmp_total z in
        again (ap (λ o. ordering_then o (path_cmp b p)) (sym e) ∙ less)
        (λ low'. out (subst (λ n. IsBelow (x ∷ b) (n ∷ p)) equal (below_head x b p low')))
        (ap (λ o. ordering_then o (path_cmp p q)) (sym level) ∙ up)
    by Greater e same again = less_not_greater (path_cmp (x ∷ b) (y ∷ p)) less (ap (λ o. ordering_then o (path_cmp b p)) e)

-- behind a path that is beyond b no pair is below b
none_below : (b p : Path) (es : Pairs) → path_cmp b p ≡ Less → (IsBelow b p → ⊥) → AllByRecursion (λ q. path_cmp p q ≡ Less) (keys_of es) → pairs_below b es ≡ []
none_below b p [] less out h = refl
none_below b p (e ∷ es) less out h =
    rw (not_below_of b e.0 (beyond b p e.0 less out h.0)) (none_below b p es less out h.1)

-- the pairs below b end before the first that is not below it
pub stops : (b p : Path) (m : NodeMetadata) (es : Pairs) → IsStrictlySortedBy path_cmp (b ∷ p ∷ keys_of es) → (IsBelow b p → ⊥) → pairs_below b ((p, m) ∷ es) ≡ []
unfolding IsStrictlySortedBy
stops b p m es h out = rw (not_below_of b p out) (none_below b p es h.0.0 out h.1.0)

-- and go on behind one that is
pub goes_on : (b p : Path) (m : NodeMetadata) (es : Pairs) → IsBelow b p → pairs_below b ((p, m) ∷ es) ≡ (p, m) ∷ pairs_below b es
goes_on b p m es low = rw (is_below_of b p low) refl

-- one pair less is left behind b
pub left_less : (b p : Path) (es : Pairs) → IsStrictlySortedBy path_cmp (b ∷ p ∷ keys_of es) → IsStrictlySortedBy path_cmp (b ∷ keys_of es)
unfolding IsStrictlySortedBy
left_less b p es h = (h.0.1, h.1.1)

-- ---- the pairs behind b

-- an order that passes the test for `Less` is `Less`
lt_from : (o : Ordering) → is_lt o ≡ true → o ≡ Less
lt_from Less e = refl
lt_from Equal e = absurd (true≢false (sym e))
lt_from Greater e = absurd (true≢false (sym e))

-- a path that stands before all pairs stands before those of them that are behind b
more_above : (b p : Path) (es : Pairs) → AllByRecursion (λ q. path_cmp p q ≡ Less) (keys_of es) → AllByRecursion (λ q. path_cmp p q ≡ Less) (keys_of (pairs_behind b es))
more_above b p [] h = tt
more_above b p (e ∷ es) h = by (is_lt (path_cmp b e.0)) refl (more_above b p es h.1)
  where
    by : (t : Bool) → is_lt (path_cmp b e.0) ≡ t → AllByRecursion (λ q. path_cmp p q ≡ Less) (keys_of (pairs_behind b es)) → AllByRecursion (λ q. path_cmp p q ≡ Less) (keys_of (pairs_behind b (e ∷ es)))
    by true s again = rw s (h.0, again)
    by false s again = rw s again

-- b stands before all pairs that are behind b
all_behind : (b : Path) (es : Pairs) → AllByRecursion (λ q. path_cmp b q ≡ Less) (keys_of (pairs_behind b es))
all_behind b [] = tt
all_behind b (e ∷ es) = by (is_lt (path_cmp b e.0)) refl (all_behind b es)
  where
    by : (t : Bool) → is_lt (path_cmp b e.0) ≡ t → AllByRecursion (λ q. path_cmp b q ≡ Less) (keys_of (pairs_behind b es)) → AllByRecursion (λ q. path_cmp b q ≡ Less) (keys_of (pairs_behind b (e ∷ es)))
    by true s again = rw s (lt_from (path_cmp b e.0) s, again)
    by false s again = rw s again

-- where pairs ascend, those behind b do so too
still_sorted : (b : Path) (es : Pairs) → IsStrictlySortedBy path_cmp (keys_of es) → IsStrictlySortedBy path_cmp (keys_of (pairs_behind b es))
unfolding IsStrictlySortedBy
still_sorted b [] h = tt
still_sorted b (e ∷ es) h = by (is_lt (path_cmp b e.0)) refl (still_sorted b es h.1)
  where
    by : (t : Bool) → is_lt (path_cmp b e.0) ≡ t → IsStrictlySortedBy path_cmp (keys_of (pairs_behind b es)) → IsStrictlySortedBy path_cmp (keys_of (pairs_behind b (e ∷ es)))
    by true s again = rw s (more_above b e.0 es h.0, again)
    by false s again = rw s again

-- the pairs behind b ascend from b on
pub behind_sorted : (b : Path) (es : Pairs) → IsStrictlySortedBy path_cmp (keys_of es) → IsStrictlySortedBy path_cmp (b ∷ keys_of (pairs_behind b es))
unfolding IsStrictlySortedBy
behind_sorted b es h = (all_behind b es, still_sorted b es h)

-- a path stands behind each that it is below
pub stands_behind : (b p : Path) → IsBelow b p → path_cmp b p ≡ Less
stands_behind b p (n, ns, e) = ap (path_cmp b) e ∙ ap (λ x. path_cmp x (b ++ n ∷ ns)) (sym (append-nil b)) ∙ path_cmp-append b [] (n ∷ ns)

-- and have all that is below b
pub behind_has : (b : Path) (es : Pairs) → pairs_below b (pairs_behind b es) ≡ pairs_below b es
behind_has b [] = refl
behind_has b (e ∷ es) = by (is_lt (path_cmp b e.0)) refl (is_path_below b e.0) refl (behind_has b es)
  where
    by : (t : Bool) → is_lt (path_cmp b e.0) ≡ t → (o : Bool) → is_path_below b e.0 ≡ o → pairs_below b (pairs_behind b es) ≡ pairs_below b es → pairs_below b (pairs_behind b (e ∷ es)) ≡ pairs_below b (e ∷ es)
    by true s true u again = rw (s, u) (ap (λ x. e ∷ x) again)
    by true s false u again = rw (s, u) again
    by false s false u again = rw (s, u) again
    by false s true u again =
        absurd (true≢false (sym (ap is_lt (stands_behind b e.0 (is_below_from b e.0 u))) ∙ s))

-- ---- the pairs below b as a set

-- the pairs below b are those of the list that are below it
pub each_below : (b : Path) (es : Pairs) (e : Path × NodeMetadata) → Contains (pairs_below b es) e ↔ (Contains es e × IsBelow b e.0)
each_below b [] e = (λ in'. absurd (omega (arith, in'.1)), λ both. absurd (omega (arith, both.0.1)))
each_below b (d ∷ es) e = by (is_path_below b d.0) refl (each_below b es e)
  where
    by : (t : Bool) → is_path_below b d.0 ≡ t → Contains (pairs_below b es) e ↔ (Contains es e × IsBelow b e.0) → Contains (pairs_below b (d ∷ es)) e ↔ (Contains (d ∷ es) e × IsBelow b e.0)
    by true s again = rw s (
      λ in'. ⊎_elim
          (λ same. (subst (Contains (d ∷ es)) same (Contains-first d es), subst (λ x. IsBelow b x.0) same (is_below_from b d.0 s)))
          (λ l. let w = again.0 l in (Contains-cons d es e w.0, w.1))
          (contains_cases d (pairs_below b es) e in'),
      λ both. ⊎_elim
          (λ same. subst (Contains (d ∷ pairs_below b es)) same (Contains-first d (pairs_below b es)))
          (λ l. Contains-cons d (pairs_below b es) e (again.1 (l, both.1)))
          (contains_cases d es e both.0),
    )
    by false s again = rw s (
      λ in'. let w = again.0 in' in (Contains-cons d es e w.0, w.1),
      λ both. ⊎_elim
          (λ same. absurd (true≢false (sym (is_below_of b d.0 (subst (λ x. IsBelow b x.0) (sym same) both.1)) ∙ s)))
          (λ l. again.1 (l, both.1))
          (contains_cases d es e both.0),
    )

-- the lines of the pairs below b are those of the set of the pairs of an ordered list
pub below_is_lines : (b : Path) (es : Pairs) → Ascend es → IsLines b (Contains es) (lines b (pairs_below b es))
below_is_lines b es up =
    let kept = AllPairs-filter (λ d e. path_cmp d.0 e.0 ≡ Less) (λ e. is_path_below b e.0) es up in
    (pairs_below b es, lists_from (pairs_below b es) (each_below b es) (apart (pairs_below b es) kept), kept, refl)

-- ---- the lines below b, as they are written

module _ (b p : Path) (m : NodeMetadata) (es left : Pairs) (before whole : List ℕ) (is : left ≡ (p, m) ∷ es)
    (h : IsStrictlySortedBy path_cmp (b ∷ keys_of left) × (before ++ lines b (pairs_below b left) ≡ whole)) where
  -- b, p and the other paths ascend
  ascend : IsStrictlySortedBy path_cmp (b ∷ p ∷ keys_of es)
  ascend = subst (λ xs. IsStrictlySortedBy path_cmp (b ∷ keys_of xs)) is h.0

  -- one more is written
  pub lines_next : (written : List ℕ) → IsBelow b p → written ≡ before ++ line (length p - length b) p m
      → IsStrictlySortedBy path_cmp (b ∷ keys_of es) × (written ++ lines b (pairs_below b es) ≡ whole)
  lines_next written low w =
      let left_is : pairs_below b left ≡ (p, m) ∷ pairs_below b es = ap (pairs_below b) is ∙ goes_on b p m es low in (
        left_less b p es ascend,
        ap (λ x. x ++ lines b (pairs_below b es)) w ∙ append_assoc before (line (length p - length b) p m) (lines b (pairs_below b es)) ∙ ap (λ xs. before ++ lines b xs) (sym left_is) ∙ h.1,
      )

  -- at the first that is not below b all is written
  pub lines_stop : (IsBelow b p → ⊥) → before ≡ whole
  lines_stop out = sym (append-nil before) ∙ ap (λ xs. before ++ lines b xs) (sym (ap (pairs_below b) is ∙ stops b p m es ascend out)) ∙ h.1

-- where none is left all is written
pub lines_end : (b : Path) (left : Pairs) (before whole : List ℕ) → left ≡ [] → before ++ lines b (pairs_below b left) ≡ whole → before ≡ whole
lines_end b left before whole is h = sym (append-nil before) ∙ ap (λ xs. before ++ lines b (pairs_below b xs)) (sym is) ∙ h

-- at first all that is below b is left
pub lines_start : (b : Path) (es left : Pairs) (before : List ℕ) → Ascend es → left ≡ pairs_behind b es
    → IsStrictlySortedBy path_cmp (b ∷ keys_of left) × (before ++ lines b (pairs_below b left) ≡ before ++ lines b (pairs_below b es))
lines_start b es left before up is = rw is (behind_sorted b es (sorted es up), ap (λ xs. before ++ lines b xs) (behind_has b es))

-- the root is not below itself, and each other path is
pub skips_root : (p : Path) (m : NodeMetadata) (es : Pairs) → p ≡ [] → pairs_below [] ((p, m) ∷ es) ≡ pairs_below [] es
skips_root [] m es e = refl
skips_root (n ∷ p) m es e = absurd (not_below [] (n, p, sym e))

-- a first pair whose path is not the root is the first of the pairs below the root
pub takes_path : (p : Path) (m : NodeMetadata) (es : Pairs) → p ≢ [] → pairs_below [] ((p, m) ∷ es) ≡ (p, m) ∷ pairs_below [] es
takes_path [] m es e = absurd (e refl)
takes_path (n ∷ p) m es e = refl

module _ (p : Path) (m : NodeMetadata) (es left : Pairs) (done whole : List ℕ) (is : left ≡ (p, m) ∷ es) (h : done ++ lines [] (pairs_below [] left) ≡ whole) where
  -- the root is passed over
  pub shown_skip : p ≡ [] → done ++ lines [] (pairs_below [] es) ≡ whole
  shown_skip e = ap (λ xs. done ++ lines [] xs) (sym (ap (pairs_below []) is ∙ skips_root p m es e)) ∙ h

  -- one more is shown
  pub shown_next : p ≢ [] → (done ++ line (length p - 0) p m) ++ lines [] (pairs_below [] es) ≡ whole
  shown_next e =
      append_assoc done (line (length p - 0) p m) (lines [] (pairs_below [] es)) ∙ ap (λ xs. done ++ lines [] xs) (sym (ap (pairs_below []) is ∙ takes_path p m es e)) ∙ h

-- ---- the run of the pairs below b

-- each of the pairs behind b stands behind it
pub each_behind : (b : Path) (es : Pairs) → IsBehind b (pairs_behind b es)
each_behind b [] e in' = absurd (omega (arith, in'.1))
each_behind b (d ∷ es) e in' = by (is_lt (path_cmp b d.0)) refl (each_behind b es e) in'
  where
    by : (t : Bool) → is_lt (path_cmp b d.0) ≡ t → (Contains (pairs_behind b es) e → path_cmp b e.0 ≡ Less) → Contains (cond t (d ∷ pairs_behind b es) (pairs_behind b es)) e → path_cmp b e.0 ≡ Less
    by true s again has = ⊎_elim (λ same. subst (λ x. path_cmp b x.0 ≡ Less) same (lt_from (path_cmp b d.0) s)) again (contains_cases d (pairs_behind b es) e has)
    by false s again has = again has

-- they ascend
pub behind_ascend : (b : Path) (es : Pairs) → Ascend es → Ascend (pairs_behind b es)
behind_ascend b es up = AllPairs-filter (λ d e. path_cmp d.0 e.0 ≡ Less) (λ e. is_lt (path_cmp b e.0)) es up

-- so do the pairs below it
pub below_ascend : (b : Path) (es : Pairs) → Ascend es → Ascend (pairs_below b es)
below_ascend b es up = AllPairs-filter (λ d e. path_cmp d.0 e.0 ≡ Less) (λ e. is_path_below b e.0) es up

-- two numbers are the same or not
number_cases : (m n : ℕ) → ((m ≡ n) × Unit {0}) ⊎ ((m ≡ n → ⊥) × Unit {0})
number_cases m n = ⊎_elim (λ h. inl (h.1, tt)) (λ h. inr (h.1, tt)) (eqb_tells m n)

-- among pairs behind b no pair below it comes after one that is not
pub one_run : (b : Path) (es : Pairs) → Ascend es → IsBehind b es → IsPartitionedBy (λ e. is_path_below b e.0) es
one_run b es up behind i j d le lt low = by (is_path_below b (get_or es i d).0) refl
  where
    by : (t : Bool) → is_path_below b (get_or es i d).0 ≡ t → is_path_below b (get_or es i d).0 ≡ true
    by true s = s
    by false s = ⊎_elim
        (λ same. absurd (true≢false (sym low ∙ ap (λ k. is_path_below b (get_or es k d).0) (sym same.0) ∙ s)))
        (λ other. absurd (beyond b (get_or es i d).0 (get_or es j d).0 (behind (get_or es i d) (Contains-get_or es i d (omega (arith, le, lt))))
        (λ is. true≢false (sym (is_below_of b (get_or es i d).0 is) ∙ s)) (up i j d (omega (arith, le, other.0)) lt) (is_below_from b (get_or es j d).0 low)))
        (number_cases i j)

-- what is taken up to the end of a run is what passes the test
pub run_taken : {A : Type 0} (p : A → Bool) (xs : List A) (i : ℕ) → i ≤ length xs → IsPartitionPoint (λ y. p y ≡ true) (λ y. p y ≡ false) xs i → take i xs ≡ filter p xs
run_taken p [] zero le h = refl
run_taken p [] (suc i) le h = absurd (omega (arith, le))
run_taken p (x ∷ xs) zero le h =
    rw (h.1 0 x (omega arith) (omega arith)) (run_taken p xs 0 (omega arith) (λ k d a b. absurd (omega (arith, b)), λ k d a b. h.1 (suc k) d (omega arith) (omega (arith, b))))
run_taken p (x ∷ xs) (suc i) le h =
    rw (h.0 0 x (omega arith) (omega arith))
    (ap (λ ys. x ∷ ys) (run_taken p xs i (omega (arith, le)) (λ k d a b. h.0 (suc k) d (omega arith) (omega (arith, b)), λ k d a b. h.1 (suc k) d (omega (arith, a)) (omega (arith, b)))))
