-- Joining segments by slashes, and cutting the text again.
use Rattle.std.proofs.Common.{ne_eqb, add-one, length, ◌==◌, ◌+◌, ◌≡◌, ◌≢◌, ℕ, Bool, true, false, cond, not, ◌&&◌, List, [], ◌∷◌, ◌++◌, refl, sym, ap, ◌∙◌, subst, IsTrue, arith}
use Rattle.std.specs.List.{slice_split, onto_first, join_with_byte, filter, list_all}
use Rattle.std.proofs.lemmas.Bool.{and_parts, and_from, not-true}
use Rattle.std.proofs.lemmas.List.Splits.{slice_split-cons_no, join_with_byte-slice_split}
use Rattle.std.proofs.Common.{append_assoc}
use Rattle.std.specs.Prelude.{All}
use Rattle.std.proofs.lemmas.Bool.{eqb-false}
use Rattle.std.proofs.lemmas.List.Sums.{AllPass-from_list_all, list_all-from_AllPass}
use Rattle.std.proofs.lemmas.List.Elements.{All-nil, All-cons, All-head, All-tail, All-append}
use Rattle.std.proofs.lemmas.List.{append_cancel_right, append-nil, length-append}
use Rattle.std.proofs.lemmas.List.Folds.{list_all-append}
use Rattle.zarrs_store.specs.Segments.{Segments, is_slash, has_no_slash, is_nonempty, is_segment, last_segment, IsSegment, IsKey, IsKeyText, IsPrefix, IsPrefixText, segments_of, key_text, prefix_text}
use Rattle.zarrs_store.specs.StepsOfStores.{IsSegments}
use Rattle.zarrs_store.proofs.ChildLemmas.{last_segment-child}

-- a text that is not empty passes the test
pub is_nonempty-true : (s : List ℕ) → s ≢ [] → is_nonempty s ≡ true
is_nonempty-true [] n = absurd (n refl)
is_nonempty-true (b ∷ bs) n = refl

-- a text that passes the test is not empty
pub nonempty_from : (s : List ℕ) → is_nonempty s ≡ true → s ≢ []
nonempty_from [] h e = cc
nonempty_from (b ∷ bs) h e = cc

-- ---- the parts between slashes

-- where a byte was put onto the first part, there is a part
onto_first_some : (x : ℕ) (ps : List (List ℕ)) → onto_first x ps ≢ []
onto_first_some x [] e = cc
onto_first_some x (p ∷ ps) e = cc

-- each text has at least one part
pub parts_some : (bs : List ℕ) → slice_split is_slash bs ≢ []
parts_some [] e = cc
parts_some (b ∷ bs) e =
    elim (is_slash b) as (λ t. cond t ([] ∷ slice_split is_slash bs) (onto_first b (slice_split is_slash bs)) ≢ []) [ true ↦ λ e. cc | false ↦ onto_first_some b (slice_split is_slash bs) ] e

-- of two lists of parts the byte goes onto the first of the first list, where that has one
onto_first-append : (x : ℕ) (ps qs : List (List ℕ)) → ps ≢ [] → onto_first x (ps ++ qs) ≡ onto_first x ps ++ qs
onto_first-append x [] qs some = absurd (some refl)
onto_first-append x (p ∷ ps) qs some = refl

-- the parts before and after a slash stand one after another
pub parts-append : (xs ys : List ℕ) → slice_split is_slash (xs ++ 47 ∷ ys) ≡ slice_split is_slash xs ++ slice_split is_slash ys
parts-append [] ys = refl
parts-append (x ∷ xs) ys =
    rw (parts-append xs ys)
    (elim (is_slash x) as (λ t. cond t ([] ∷ (slice_split is_slash xs ++ slice_split is_slash ys)) (onto_first x (slice_split is_slash xs ++ slice_split is_slash ys)) ≡ cond t ([] ∷ slice_split is_slash xs) (onto_first x (slice_split is_slash xs)) ++ slice_split is_slash ys) [
      | true ↦ refl
      | false ↦ onto_first-append x _ _ (parts_some xs)
    ])

-- a text without a slash is its one part
pub parts_one : (s : List ℕ) → IsTrue (has_no_slash s) → slice_split is_slash s ≡ s ∷ []
parts_one [] h = refl
parts_one (b ∷ s) h =
    let both = and_parts _ _ h in
    slice_split-cons_no is_slash b s (not-true _ both.0) ∙ rw (parts_one s both.1)

-- parts without a slash stay so where a byte that is no slash is put onto the first
onto_first_clean : (b : ℕ) (ps : List (List ℕ)) → IsTrue (not (is_slash b)) → IsTrue (list_all has_no_slash ps) → IsTrue (list_all has_no_slash (onto_first b ps))
onto_first_clean b [] n h = and_from _ _ (and_from _ _ n refl) refl
onto_first_clean b (p ∷ ps) n h = let both = and_parts _ _ h in and_from _ _ (and_from _ _ n both.0) both.1

-- no part holds a slash
pub parts_clean : (bs : List ℕ) → IsTrue (list_all has_no_slash (slice_split is_slash bs))
parts_clean [] = refl
parts_clean (b ∷ bs) =
    let P : Bool → Type 0 = λ t. is_slash b ≡ t → IsTrue (list_all has_no_slash (cond t ([] ∷ slice_split is_slash bs) (onto_first b (slice_split is_slash bs)))) in
    let all : (t : Bool) → P t = elim [ true ↦ λ _. parts_clean bs | false ↦ λ no. onto_first_clean b _ (ap not no) (parts_clean bs) ] in
    all (is_slash b) refl

-- what was joined by slashes is cut into the same parts
pub parts-join : (p : List (List ℕ)) → p ≢ [] → IsTrue (list_all has_no_slash p) → slice_split is_slash (join_with_byte 47 p) ≡ p
parts-join [] some h = absurd (some refl)
parts-join (s ∷ []) some h = parts_one s (and_parts _ _ h).0
parts-join (s ∷ t ∷ p) some h =
    let both = and_parts _ _ h in
    parts-append s (join_with_byte 47 (t ∷ p)) ∙ rw (parts_one s both.0, parts-join (t ∷ p) (λ e. cc) both.1)

-- ---- tests of all segments

-- the test that a text's length is not 0 is the test that the text is not empty
pub nonempty_is : (s : List ℕ) → not (length s == 0) ≡ is_nonempty s
nonempty_is [] = refl
nonempty_is (b ∷ s) = let e : (length s + 1 == 0) ≡ false = ne_eqb _ _ (λ z. omega arith) in rw (← add-one, e)

-- texts that are not empty and hold no slash are segments
pub segments_from_both : (p : List (List ℕ)) → IsTrue (list_all is_nonempty p) → IsTrue (list_all has_no_slash p) → IsSegments p
segments_from_both [] n h = refl
segments_from_both (s ∷ p) n h =
    let some = and_parts _ _ n in
    let clean = and_parts _ _ h in
    and_from _ _ (and_from _ _ some.0 clean.0) (segments_from_both p some.1 clean.1)

-- segments are not empty
pub segments_nonempty : (p : List (List ℕ)) → IsSegments p → IsTrue (list_all is_nonempty p)
segments_nonempty [] h = refl
segments_nonempty (s ∷ p) h = let both = and_parts _ _ h in and_from _ _ (and_parts _ _ both.0).0 (segments_nonempty p both.1)

-- segments hold no slash
pub segments_clean : (p : List (List ℕ)) → IsSegments p → IsTrue (list_all has_no_slash p)
segments_clean [] h = refl
segments_clean (s ∷ p) h = let both = and_parts _ _ h in and_from _ _ (and_parts _ _ both.0).1 (segments_clean p both.1)

-- where no text is empty, leaving out the empty ones leaves them all
pub filter_nonempty : (p : List (List ℕ)) → IsTrue (list_all is_nonempty p) → filter is_nonempty p ≡ p
filter_nonempty [] h = refl
filter_nonempty (s ∷ p) h = let both = and_parts (is_nonempty s) (list_all is_nonempty p) h in rw (both.0, filter_nonempty p both.1)

-- the texts of two lists that are not empty are those of the first, and then those of the second
filter-append : (ps qs : List (List ℕ)) → filter is_nonempty (ps ++ qs) ≡ filter is_nonempty ps ++ filter is_nonempty qs
filter-append [] qs = refl
filter-append (p ∷ ps) qs =
    rw (filter-append ps qs)
    (elim (is_nonempty p) as (λ t. cond t (p ∷ (filter is_nonempty ps ++ filter is_nonempty qs)) (filter is_nonempty ps ++ filter is_nonempty qs) ≡ cond t (p ∷ filter is_nonempty ps) (filter is_nonempty ps) ++ filter is_nonempty qs) [ true ↦ refl | false ↦ refl ])

-- ---- the segments of a text

-- the empty text has no segments
pub segments_of-nil : segments_of [] ≡ []
unfolding segments_of
segments_of-nil = refl

-- the segments before and after a slash stand one after another
pub segments_of-append : (xs ys : List ℕ) → segments_of (xs ++ 47 ∷ ys) ≡ segments_of xs ++ segments_of ys
unfolding segments_of
segments_of-append xs ys = rw (parts-append xs ys) (filter-append (slice_split is_slash xs) (slice_split is_slash ys))

-- a segment, as a text, has itself as its only segment
pub segments_of_one : (s : List ℕ) → IsTrue (is_segment s) → segments_of s ≡ s ∷ []
unfolding segments_of
segments_of_one s h = let both = and_parts (is_nonempty s) (has_no_slash s) h in rw (parts_one s both.1, both.0)

-- a slash behind each segment
pub prefix_text-cons : (s : List ℕ) (p : Segments) → prefix_text (s ∷ p) ≡ s ++ 47 ∷ prefix_text p
prefix_text-cons s p = append_assoc s (47 ∷ []) (prefix_text p)

-- the segments of a prefix's text are the prefix
pub segments_of-prefix_text : (p : Segments) → IsSegments p → segments_of (prefix_text p) ≡ p
segments_of-prefix_text [] h = segments_of-nil
segments_of-prefix_text (s ∷ p) h =
    let both = and_parts (is_segment s) (list_all is_segment p) h in
    ap segments_of (prefix_text-cons s p) ∙ segments_of-append s (prefix_text p) ∙ rw (segments_of_one s both.0, segments_of-prefix_text p both.1) refl

-- ---- segments as a test, and as a record

-- a segment passes the test of segments
pub segment_test : (s : List ℕ) → IsSegment s → IsTrue (is_segment s)
segment_test s h =
    and_from (is_nonempty s) (has_no_slash s) (is_nonempty-true s h.nonempty)
    (list_all-from_AllPass (λ b. not (is_slash b)) s (λ k d l. ap not (ne_eqb _ 47 (h.no_slash k d l))))

-- what passes the test of segments is a segment
pub segment_of_test : (s : List ℕ) → IsTrue (is_segment s) → IsSegment s
segment_of_test s h =
    let both = and_parts (is_nonempty s) (has_no_slash s) h in
    record { nonempty = nonempty_from s both.0; no_slash = λ k d l. eqb-false _ 47 (not-true _ (AllPass-from_list_all (λ b. not (is_slash b)) s both.1 k d l)) }

-- where each is a segment, all pass the test
pub segments_test : (p : Segments) → All IsSegment p → IsSegments p
segments_test [] h = refl
segments_test (s ∷ p) h =
    and_from (is_segment s) (list_all is_segment p) (segment_test s (All-head IsSegment s p h)) (segments_test p (All-tail IsSegment s p h))

-- where all pass the test, each is a segment
pub segments_of_test : (p : Segments) → IsSegments p → All IsSegment p
segments_of_test [] h = All-nil IsSegment
segments_of_test (s ∷ p) h =
    let both = and_parts (is_segment s) (list_all is_segment p) h in
    All-cons IsSegment s p (segment_of_test s both.0) (segments_of_test p both.1)

-- the segments of a key's text are the key
pub segments_of-key_text : (p : Segments) → IsKey p → segments_of (key_text p) ≡ p
unfolding segments_of
segments_of-key_text p h =
    let each = segments_test p h.each in
    rw (parts-join p h.some (segments_clean p each)) (filter_nonempty p (segments_nonempty p each))

-- ---- the texts of keys

-- the text of a key gives the key back
pub key_from_text : (bs : List ℕ) → IsKeyText bs → IsKey (segments_of bs) × (key_text (segments_of bs) ≡ bs)
key_from_text bs t =
    let P : List ℕ → Type 0 = λ bs. IsKey (segments_of bs) × (key_text (segments_of bs) ≡ bs) in
    subst P (sym t.is) (rw (segments_of-key_text t.key t.valid) (t.valid, refl))

-- keys with one text are one
pub key_text-injective : (a b : Segments) → IsKey a → IsKey b → key_text a ≡ key_text b → a ≡ b
key_text-injective a b h k e = sym (segments_of-key_text a h) ∙ ap segments_of e ∙ segments_of-key_text b k

-- a key is what stands between the slashes of its text
pub parts-key_text : (k : Segments) → IsKey k → slice_split is_slash (key_text k) ≡ k
parts-key_text k h = parts-join k h.some (segments_clean k (segments_test k h.each))

-- between the slashes of a key's text nothing is empty
pub passes_from_key : (bs : List ℕ) → IsKeyText bs → list_all is_nonempty (slice_split is_slash bs) ≡ true
passes_from_key bs t =
    ap (λ x. list_all is_nonempty (slice_split is_slash x)) t.is ∙ ap (list_all is_nonempty) (parts-key_text t.key t.valid)
    ∙ segments_nonempty t.key (segments_test t.key t.valid.each)

-- a text of which nothing is empty between the slashes is a key's
pub key_from_passes : (bs : List ℕ) → list_all is_nonempty (slice_split is_slash bs) ≡ true → IsKeyText bs
key_from_passes bs h = record {
  key = slice_split is_slash bs;
  valid = record { some = parts_some bs; each = segments_of_test (slice_split is_slash bs) (segments_from_both (slice_split is_slash bs) h (parts_clean bs)) };
  is = sym (join_with_byte-slice_split 47 bs);
}

-- ---- the texts of prefixes

-- the text of a prefix gives the prefix back
pub prefix_from_text : (bs : List ℕ) → IsPrefixText bs → IsPrefix (segments_of bs) × (prefix_text (segments_of bs) ≡ bs)
prefix_from_text bs t =
    let P : List ℕ → Type 0 = λ bs. IsPrefix (segments_of bs) × (prefix_text (segments_of bs) ≡ bs) in
    subst P (sym t.is) (rw (segments_of-prefix_text t.prefix (segments_test t.prefix t.valid)) (t.valid, refl))

-- the text of some segments as a prefix is that of them as a key and a slash
pub prefix_text-key : (s : List ℕ) (p : Segments) → prefix_text (s ∷ p) ≡ key_text (s ∷ p) ++ 47 ∷ []
prefix_text-key s [] = append-nil (s ++ 47 ∷ [])
prefix_text-key s (t ∷ p) = prefix_text-cons s (t ∷ p) ∙ ap (λ r. s ++ 47 ∷ r) (prefix_text-key t p) ∙ sym (append_assoc s (47 ∷ key_text (t ∷ p)) (47 ∷ []))

-- the text of some segments and one more as a key is that of them as a prefix and the segment
pub key_text-child : (p : Segments) (s : List ℕ) → key_text (p ++ s ∷ []) ≡ prefix_text p ++ s
key_text-child [] s = refl
key_text-child (n ∷ []) s = sym (ap (λ t. t ++ s) (prefix_text-cons n []) ∙ append_assoc n (47 ∷ []) s)
key_text-child (n ∷ m ∷ p) s =
    ap (λ t. n ++ 47 ∷ t) (key_text-child (m ∷ p) s) ∙ sym (ap (λ t. t ++ s) (prefix_text-cons n (m ∷ p)) ∙ append_assoc n (47 ∷ prefix_text (m ∷ p)) s)

-- a prefix and one segment more is a key
pub key_from_child : (p : Segments) (s : List ℕ) → IsPrefix p → IsTrue (is_segment s) → IsKey (p ++ s ∷ [])
key_from_child p s h k = record {
  some = λ e. let n = length-append p (s ∷ []) in let none : length (p ++ s ∷ []) ≡ 0 = ap length e in absurd (omega (arith, n, none));
  each = All-append IsSegment p (s ∷ []) h (All-cons IsSegment s [] (segment_of_test s k) (All-nil IsSegment));
}

-- a key's text and a slash is a prefix's text
pub prefix_from_key : (u : List ℕ) → IsKeyText u → IsPrefixText (u ++ 47 ∷ [])
prefix_from_key u t =
    let P : Segments → Type 0 = λ k. IsKey k → u ≡ key_text k → IsPrefixText (u ++ 47 ∷ []) in
    let all : (k : Segments) → P k = elim [
      | [] ↦ λ h. absurd (h.some refl)
      | (s ∷ p) ↦ λ h e. record { prefix = s ∷ p; valid = h.each; is = ap (λ x. x ++ 47 ∷ []) e ∙ sym (prefix_text-key s p) }
    ] in all t.key t.valid t.is

-- what stands before the last slash of a prefix's text is a key's text
pub key_from_prefix : (u : List ℕ) → IsPrefixText (u ++ 47 ∷ []) → IsKeyText u
key_from_prefix u t =
    let P : Segments → Type 0 = λ p. IsPrefix p → u ++ 47 ∷ [] ≡ prefix_text p → IsKeyText u in
    let all : (p : Segments) → P p = elim [
      | [] ↦ λ h e. let long = length-append u (47 ∷ []) in let none : length (u ++ 47 ∷ []) ≡ 0 = ap length e in absurd (omega (arith, long, none))
      | (s ∷ p) ↦ λ h e. record { key = s ∷ p; valid = record { some = λ z. cc; each = h }; is = append_cancel_right u (key_text (s ∷ p)) (47 ∷ []) (e ∙ prefix_text-key s p) }
    ] in all t.prefix t.valid t.is

-- a prefix's text that does not end in a slash is empty
pub prefix_open : (t : List ℕ) → IsPrefixText t → ((u : List ℕ) → t ≢ u ++ 47 ∷ []) → t ≡ []
prefix_open t h apart =
    let P : Segments → Type 0 = λ p. t ≡ prefix_text p → t ≡ [] in
    let all : (p : Segments) → P p = elim [
      | [] ↦ λ e. e
      | (s ∷ p) ↦ λ e. absurd (apart (key_text (s ∷ p)) (e ∙ prefix_text-key s p))
    ] in all h.prefix h.is

-- the empty text is a prefix's
pub prefix_from_nothing : IsPrefixText []
prefix_from_nothing = record { prefix = []; valid = All-nil IsSegment; is = refl }

-- ---- the last segment of a prefix's text

-- a slash at the end adds no segment
pub segments_of-slash : (u : List ℕ) → segments_of (u ++ 47 ∷ []) ≡ segments_of u
segments_of-slash u = segments_of-append u [] ∙ ap (λ r. segments_of u ++ r) segments_of-nil ∙ append-nil (segments_of u)

-- what stands behind the last slash of a key's text is its last segment
pub last_segment-after : (a name : List ℕ) → IsKeyText (a ++ 47 ∷ name) → IsTrue (has_no_slash name) → last_segment (segments_of (a ++ 47 ∷ name)) ≡ name
last_segment-after a name t clean =
    let cut : slice_split is_slash (a ++ 47 ∷ name) ≡ slice_split is_slash a ++ name ∷ [] = parts-append a name ∙ ap (λ r. slice_split is_slash a ++ r) (parts_one name clean) in
    let full : IsTrue (list_all is_nonempty (slice_split is_slash a) && list_all is_nonempty (name ∷ [])) =
    sym (ap (list_all is_nonempty) cut ∙ list_all-append is_nonempty (slice_split is_slash a) (name ∷ [])) ∙ passes_from_key _ t in
    let some : IsTrue (is_nonempty name) = (and_parts (is_nonempty name) (list_all is_nonempty []) (and_parts (list_all is_nonempty (slice_split is_slash a)) (list_all is_nonempty (name ∷ [])) full).1).0 in
    ap last_segment (segments_of-append a name ∙ ap (λ r. segments_of a ++ r) (segments_of_one name (and_from (is_nonempty name) (has_no_slash name) some clean)))
    ∙ last_segment-child (segments_of a) name

-- a key's text without a slash is its last segment
pub last_segment-whole : (name : List ℕ) → IsKeyText name → IsTrue (has_no_slash name) → last_segment (segments_of name) ≡ name
last_segment-whole name t clean =
    let full : IsTrue (list_all is_nonempty (name ∷ [])) = sym (ap (list_all is_nonempty) (parts_one name clean)) ∙ passes_from_key name t in
    ap last_segment (segments_of_one name (and_from (is_nonempty name) (has_no_slash name) (and_parts (is_nonempty name) (list_all is_nonempty []) full).0 clean))

-- a text of no bytes is empty
pub no_length : (s : List ℕ) → (length s == 0) ≡ true → s ≡ []
no_length [] h = refl
no_length (b ∷ s) h = let n = ap not h in let some : not (length (b ∷ s) == 0) ≡ true = nonempty_is (b ∷ s) in cc
