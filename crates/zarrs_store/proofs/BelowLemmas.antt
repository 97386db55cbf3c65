-- Keys below a prefix, by their segments and by their texts.
use Rattle.std.proofs.Common.{◌≡◌, ◌≢◌, ℕ, true, false, not, cond, List, [], ◌∷◌, ◌++◌, refl, sym, ap, subst, ◌∙◌, Some, None, Option, option_map, append_assoc, lit<, length, Bor, IsTrue, arith}
use Rattle.std.specs.Prelude.{All, is_some}
use Rattle.std.specs.Option.{MatchOption}
use Rattle.std.specs.List.{list_all}
use Rattle.std.specs.Str.Pattern.{FindsTextPrefix, LacksTextAt, StripsPrefix}
use Rattle.std.proofs.lemmas.Str.Pattern.{IsSplitOnceResult, split_parts, split_after}
use Rattle.std.proofs.lemmas.Bool.{and_parts}
use Rattle.std.proofs.lemmas.Slice.Eq.{bytes_eq-Decides}
use Rattle.std.proofs.lemmas.List.{append_cancel_left, append-nil, length-append}
use Rattle.std.proofs.lemmas.List.Concat.{flat_map-append}
use Rattle.std.proofs.lemmas.List.Folds.{list_all-append}
use Rattle.std.proofs.lemmas.List.Elements.{All-head, All-tail, All-push}
use Rattle.zarrs_store.specs.Segments.{Segments, bytes_eq, key_text, prefix_text, segments_of, is_slash, has_no_slash, is_nonempty, is_segment, IsKey, IsPrefix, IsSegment}
use Rattle.zarrs_store.specs.StepsOfStores.{IsSegments, first_of_more}
use Rattle.zarrs_store.specs.Entries.{beyond}
use Rattle.zarrs_store.proofs.Cuts.{segments_of-append, segments_of_one, segments_of-key_text, segments_test, segment_test, prefix_text-cons, prefix_text-key}

-- a text equals itself
bytes_eq_self : (s : List ℕ) → bytes_eq s s ≡ true
bytes_eq_self s = (bytes_eq-Decides s s).1 refl

-- beyond a prefix stands what was put behind it
pub beyond-append : (p : Segments) (n : List ℕ) (r : Segments) → beyond p (p ++ n ∷ r) ≡ Some (n ∷ r)
beyond-append [] n r = refl
beyond-append (s ∷ p) n r = ap (λ b. cond b (beyond p (p ++ n ∷ r)) None) (bytes_eq_self s) ∙ beyond-append p n r

-- what `beyond` finds: at least one segment, which with the prefix makes the key
pub record IsBeyond (p k r : Segments) : Type 0 where
  pub name : List ℕ
  pub more : Segments
  pub found : r ≡ name ∷ more
  pub is : k ≡ p ++ name ∷ more

-- what `beyond` finds is such
pub from_beyond : (p k r : Segments) → beyond p k ≡ Some r → IsBeyond p k r
from_beyond [] [] r e = cc
from_beyond [] (t ∷ ts) r e = let f : t ∷ ts ≡ r = cc in record { name = t; more = ts; found = sym f; is = refl }
from_beyond (s ∷ p) [] r e = cc
from_beyond (s ∷ p) (t ∷ ts) r e =
    elim (bytes_eq s t) as (λ b. bytes_eq s t ≡ b → cond b (beyond p ts) None ≡ Some r → IsBeyond (s ∷ p) (t ∷ ts) r) [
      | true ↦ λ same f.
          let h = from_beyond p ts r f in
          let st : s ≡ t = (bytes_eq-Decides s t).0 same in
          record { name = h.name; more = h.more; found = h.found; is = ap (λ x. x ∷ ts) (sym st) ∙ ap (λ x. s ∷ x) h.is }
      | false ↦ λ _ f. cc
    ] refl e

-- the text of a key below a prefix begins with the prefix's text
pub key_text-below : (p : Segments) (n : List ℕ) (r : Segments) → key_text (p ++ n ∷ r) ≡ prefix_text p ++ key_text (n ∷ r)
key_text-below [] n r = refl
key_text-below (s ∷ []) n r = sym (ap (λ x. x ++ key_text (n ∷ r)) (append-nil (s ++ 47 ∷ [])) ∙ append_assoc s (47 ∷ []) (key_text (n ∷ r)))
key_text-below (s ∷ u ∷ p) n r =
    ap (λ x. s ++ 47 ∷ x) (key_text-below (u ∷ p) n r)
    ∙ sym (append_assoc (s ++ 47 ∷ []) (prefix_text (u ∷ p)) (key_text (n ∷ r)) ∙ append_assoc s (47 ∷ []) (prefix_text (u ∷ p) ++ key_text (n ∷ r)))

-- the segments of a text that begins with a prefix's text
segments_of-below : (p : Segments) (rest : List ℕ) → IsSegments p → segments_of (prefix_text p ++ rest) ≡ p ++ segments_of rest
segments_of-below [] rest h = refl
segments_of-below (s ∷ p) rest h =
    let both = and_parts (is_segment s) (list_all is_segment p) h in
    ap (λ x. segments_of (x ++ rest)) (prefix_text-cons s p) ∙ ap segments_of (append_assoc s (47 ∷ prefix_text p) rest)
    ∙ segments_of-append s (prefix_text p ++ rest) ∙ ap (λ x. x ++ segments_of (prefix_text p ++ rest)) (segments_of_one s both.0)
    ∙ ap (λ x. s ∷ x) (segments_of-below p rest both.1)

-- a key's text does not begin with the text that it has as a prefix
not_itself : (p : Segments) (rest : List ℕ) → IsKey p → key_text p ≢ prefix_text p ++ rest
not_itself [] rest h e = h.some refl
not_itself (s ∷ p) rest h e =
    let whole = ap length (e ∙ ap (λ x. x ++ rest) (prefix_text-key s p)) in
    let outer = length-append (key_text (s ∷ p) ++ 47 ∷ []) rest in
    let inner = length-append (key_text (s ∷ p)) (47 ∷ []) in
    omega (arith, whole, outer, inner)

-- a key whose text begins with that of the prefix
pub beyond-text : (p k : Segments) (rest : List ℕ) → IsPrefix p → IsKey k → key_text k ≡ prefix_text p ++ rest → Some rest ≡ option_map key_text (beyond p k)
beyond-text p k rest valid key e =
    let whole : k ≡ p ++ segments_of rest =
    sym (segments_of-key_text k key) ∙ ap segments_of e ∙ segments_of-below p rest (segments_test p valid) in
    let P : Segments → Type 0 = λ ss. k ≡ p ++ ss → Some rest ≡ option_map key_text (beyond p k) in
    let all : (ss : Segments) → P ss = elim [
      | [] ↦ λ is.
          let same : k ≡ p = is ∙ append-nil p in
          absurd (not_itself p rest (subst IsKey same key) (ap key_text (sym same) ∙ e))
      | (n ∷ r) ↦ λ is.
          let text : rest ≡ key_text (n ∷ r) = append_cancel_left (prefix_text p) rest (key_text (n ∷ r)) (sym e ∙ ap key_text is ∙ key_text-below p n r) in
          ap Some text ∙ sym (ap (option_map key_text) (ap (beyond p) is ∙ beyond-append p n r))
    ] in all (segments_of rest) whole

-- a key whose text does not
beyond-none : (p k : Segments) → ((rest : List ℕ) → key_text k ≢ prefix_text p ++ rest) → None ≡ option_map key_text (beyond p k)
beyond-none p k apart =
    elim (beyond p k) as (λ o. beyond p k ≡ o → None ≡ option_map key_text o) [
      | None ↦ λ _. refl
      | Some r ↦ λ e. let h = from_beyond p k r e in absurd (apart (key_text (h.name ∷ h.more)) (ap key_text h.is ∙ key_text-below p h.name h.more))
    ] refl

-- what `strip_prefix` answers
pub strip_is : (p k : Segments) (s n : List ℕ) (r : Option (Bor (List ℕ))) → n ≡ prefix_text p → s ≡ key_text k → IsPrefix p → IsKey k
    → MatchOption r (LacksTextAt n s 0) (λ x. StripsPrefix (FindsTextPrefix n) s x.now)
    → option_map (λ (rest : Bor (List ℕ)). rest.now) r ≡ option_map key_text (beyond p k)
strip_is p k s n None is_n is_s valid key h =
    beyond-none p k (λ rest e. h rest (is_s ∙ e ∙ ap (λ x. x ++ rest) (sym is_n)))
strip_is p k s n (Some x) is_n is_s valid key h =
    beyond-text p k x.now valid key
    (sym is_s ∙ h.1.1 ∙ ap (λ y. n ++ y) (sym h.2) ∙ ap (λ y. y ++ x.now) is_n)

-- one optional value is there just where the other is
pub some_as : {X Y Z : Type 0} (f : X → Z) (g : Y → Z) (a : Option X) (b : Option Y) → option_map f a ≡ option_map g b → is_some a ≡ is_some b
some_as f g None None e = refl
some_as f g None (Some y) e = cc
some_as f g (Some x) None e = cc
some_as f g (Some x) (Some y) e = refl

-- where nothing stands behind the prefix, no child does
pub no_child_outside : (b : Option Segments) → None ≡ option_map key_text b → None ≡ first_of_more b
no_child_outside None e = refl
no_child_outside (Some r) e = cc

-- a text without a slash is not cut by one
no_cut : (s a b : List ℕ) → IsTrue (has_no_slash s) → s ≢ a ++ 47 ∷ b
no_cut s a b clean e =
    let whole : IsTrue (has_no_slash (a ++ 47 ∷ b)) = subst (λ x. IsTrue (has_no_slash x)) e clean in
    let parts = and_parts (has_no_slash a) (has_no_slash (47 ∷ b)) (sym (list_all-append (λ x. not (is_slash x)) a (47 ∷ b)) ∙ whole) in
    let none : false ≡ true = parts.1 in
    cc

-- the first segment of a key's text, where it has more than one, is what stands before its first slash
split_key : (n : List ℕ) (more : Segments) (bs : List ℕ) (r : Option (Bor (List ℕ) × Bor (List ℕ))) → IsSegment n → bs ≡ key_text (n ∷ more) → IsSplitOnceResult 47 bs r
    → option_map (λ (x : Bor (List ℕ) × Bor (List ℕ)). x.0.now) r ≡ first_of_more (Some (n ∷ more))
split_key n [] bs None h e s = refl
split_key n [] bs (Some x) h e s =
    let f = split_parts 47 bs (Some x) s (lit< tt) in
    let clean = (and_parts (is_nonempty n) (has_no_slash n) (segment_test n h)).1 in
    absurd (no_cut n x.0.now x.1.now clean (sym e ∙ f.0))
split_key n (m ∷ ms) bs None h e s = absurd (split_after 47 bs n (key_text (m ∷ ms)) None s (lit< tt) e (λ i l. h.no_slash i 0 l))
split_key n (m ∷ ms) bs (Some x) h e s = ap Some (split_after 47 bs n (key_text (m ∷ ms)) (Some x) s (lit< tt) e (λ i l. h.no_slash i 0 l)).0

-- all that stands behind some segments is segments
pub all_behind : (p q : Segments) → All IsSegment (p ++ q) → All IsSegment q
all_behind [] q h = h
all_behind (s ∷ p) q h = all_behind p q (All-tail IsSegment s (p ++ q) h)

-- the name of the child in which a key stands, from the first slash behind the prefix
pub child_by_split : (p k : Segments) (bs : List ℕ) (r : Option (Bor (List ℕ) × Bor (List ℕ))) → IsKey k → Some bs ≡ option_map key_text (beyond p k) → IsSplitOnceResult 47 bs r
    → option_map (λ (x : Bor (List ℕ) × Bor (List ℕ)). x.0.now) r ≡ first_of_more (beyond p k)
child_by_split p k bs r key e s =
    elim (beyond p k) as (λ o. beyond p k ≡ o → Some bs ≡ option_map key_text o → option_map (λ (x : Bor (List ℕ) × Bor (List ℕ)). x.0.now) r ≡ first_of_more o) [
      | None ↦ λ _ f. cc
      | Some t ↦ λ is f.
          let h = from_beyond p k t is in
          let text : bs ≡ key_text t = cc in
          let valid = All-head IsSegment h.name h.more (all_behind p (h.name ∷ h.more) (subst (All IsSegment) h.is key.each)) in
          split_key h.name h.more bs r valid (text ∙ ap key_text h.found) s ∙ sym (ap (λ x. first_of_more (Some x)) h.found)
    ] refl e

-- the first of two segments or more is the first
first_is : (m : List ℕ) (more : Segments) (n : List ℕ) → Some n ≡ first_of_more (Some (m ∷ more)) → n ≡ m
first_is m [] n e = cc
first_is m (u ∷ us) n e = cc

-- the name of a child is a segment
pub child_is_segment : (p k : Segments) (n : List ℕ) → IsKey k → Some n ≡ first_of_more (beyond p k) → IsSegment n
child_is_segment p k n key e =
    elim (beyond p k) as (λ o. beyond p k ≡ o → Some n ≡ first_of_more o → IsSegment n) [
      | None ↦ λ _ f. cc
      | Some t ↦ λ is f.
          let h = from_beyond p k t is in
          let valid = All-head IsSegment h.name h.more (all_behind p (h.name ∷ h.more) (subst (All IsSegment) h.is key.each)) in
          subst IsSegment (sym (first_is h.name h.more n (f ∙ ap (λ x. first_of_more (Some x)) h.found))) valid
    ] refl e

-- the text of a child prefix is its parent's, its name and a slash
pub prefix_text-child : (p : Segments) (n : List ℕ) → prefix_text (p ++ n ∷ []) ≡ (prefix_text p ++ n) ++ 47 ∷ []
prefix_text-child p n =
    flat_map-append (λ s. s ++ 47 ∷ []) p (n ∷ []) ∙ ap (λ x. prefix_text p ++ x) (append-nil (n ++ 47 ∷ [])) ∙ sym (append_assoc (prefix_text p) n (47 ∷ []))

-- a prefix and a segment are a prefix
pub IsPrefix-child : (p : Segments) (n : List ℕ) → IsPrefix p → IsSegment n → IsPrefix (p ++ n ∷ [])
IsPrefix-child p n h s = All-push IsSegment p n h s
