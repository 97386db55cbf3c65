-- What stands below a list of segments: keys, and the children that were discovered.
use Rattle.std.proofs.Common.{false, ◌≡◌, ℕ, ◌<◌, ◌↔◌, List, [], ◌∷◌, ◌++◌, map, length, get_or, refl, sym, ap, subst, ◌∙◌, append_assoc, Contains, AllPairs, All, IsFalse, Less, Ordering, arith, Some, None, ◌⊎◌, inl, inr, is_some}
use Rattle.std.specs.FinMap.{get}
use Rattle.std.specs.List.{AllByRecursion}
use Rattle.std.specs.List.Sorted.{IsStrictlySortedBy}
use Rattle.std.proofs.lemmas.List.{get_or-map, length-map}
use Rattle.std.proofs.lemmas.List.Elements.{All-nil, All-cons, All-head, All-tail}
use Rattle.std.proofs.lemmas.List.Kept.{AllPairs-cons}
use Rattle.zarrs_store.specs.Segments.{Segments, key_cmp, bytes_cmp, last_segment, is_reserved, IsSegment}
use Rattle.zarrs_store.specs.Contents.{Values, HasKey, HasBelow}
use Rattle.zarrs_store.specs.Children.{IsVisibleChild, AreVisibleChildren}
use Rattle.zarrs_store.proofs.ChildLemmas.{last_segment-child, key_cmp-child}

-- either some key stands below p, or p has no document of this name
pub key_or_none : (s : Values) (p : Segments) (f : List ℕ) → HasBelow s p ⊎ (None ≡ get s (p ++ f ∷ []))
key_or_none s p f =
    elim (get s (p ++ f ∷ [])) as (λ o. get s (p ++ f ∷ []) ≡ o → HasBelow s p ⊎ (None ≡ get s (p ++ f ∷ []))) [
      | Some bytes ↦ λ e. inl (f, [], ap is_some e)
      | None ↦ λ e. inr (sym e)
    ] refl

-- where all of p and n are segments, n is one
pub last_segment_is : (p : Segments) (n : List ℕ) → All IsSegment (p ++ n ∷ []) → IsSegment n
last_segment_is [] n h = All-head IsSegment n [] h
last_segment_is (m ∷ p) n h = last_segment_is p n (All-tail IsSegment m (p ++ n ∷ []) h)

-- the further segments behind p, those that begin with `__` left out, ascending
pub record IsChildren (s : Values) (p ns : Segments) : Type 0 where
  pub found : (n : List ℕ) → Contains ns n ↔ (IsFalse (is_reserved n) × HasBelow s (p ++ n ∷ []))
  pub ascending : AllPairs (λ m n. bytes_cmp m n ≡ Less) ns

-- a predicate of each item, as a predicate of each place
all_from : {K : Type 0} (P : K → Type 0) (ks : List K) → AllByRecursion P ks → All P ks
all_from P [] h = All-nil P
all_from P (k ∷ ks) h = All-cons P k ks h.0 (all_from P ks h.1)

-- of two items of what is strictly sorted the earlier is less
pub strictly_at : {K : Type 0} (R : K → K → Ordering) (ks : List K) → IsStrictlySortedBy R ks → AllPairs (λ x y. R x y ≡ Less) ks
unfolding IsStrictlySortedBy
strictly_at R [] h = λ i j d l m. absurd (omega (arith, m))
strictly_at R (k ∷ ks) h = AllPairs-cons (λ x y. R x y ≡ Less) k ks (all_from (λ y. R k y ≡ Less) ks h.0) (strictly_at R ks h.1)

module _ (s : Values) (b : Segments) where
  -- a child's last segment is its name
  name_is : (c : Segments) (v : IsVisibleChild s b c) → last_segment c ≡ v.name
  name_is c v = ap last_segment v.is ∙ last_segment-child b v.name

  -- a child is its parent and its last segment
  pub child_is : (c : Segments) → IsVisibleChild s b c → c ≡ b ++ last_segment c ∷ []
  child_is c v = v.is ∙ ap (λ n. b ++ n ∷ []) (sym (name_is c v))

  -- a visible child's last segment does not begin with `__`
  visible_is : (c : Segments) → IsVisibleChild s b c → is_reserved (last_segment c) ≡ false
  visible_is c v = ap is_reserved (name_is c v) ∙ v.visible

  -- below a child stands a key
  below_is : (c : Segments) → IsVisibleChild s b c → HasBelow s (b ++ last_segment c ∷ [])
  below_is c v = (
    v.has.next,
    v.has.rest,
    subst (HasKey s) (sym (append_assoc b (v.name ∷ []) (v.has.next ∷ v.has.rest)) ∙ ap (λ n. (b ++ n ∷ []) ++ v.has.next ∷ v.has.rest) (sym (name_is c v))) v.has.held,
  )

  module _ (cs : List Segments) (h : AreVisibleChildren s b cs) where
    -- a child has one last segment
    long : length (map last_segment cs) ≡ length cs
    long = length-map cs last_segment

    -- each of the names is visible and has a key below it
    found_child : (n : List ℕ) → Contains (map last_segment cs) n → IsFalse (is_reserved n) × HasBelow s (b ++ n ∷ [])
    found_child n (k, lt, e) =
        let inside : k < length cs = omega (arith, lt, long) in
        let v = h.sound k [] inside in
        let same : last_segment (get_or cs k []) ≡ n = sym (get_or-map last_segment cs k [] n inside) ∙ e in
        (subst (λ x. is_reserved x ≡ false) same (visible_is _ v), subst (λ x. HasBelow s (b ++ x ∷ [])) same (below_is _ v))

    -- what is visible and has a key below it is one of the names
    child_found : (n : List ℕ) → IsFalse (is_reserved n) → HasBelow s (b ++ n ∷ []) → Contains (map last_segment cs) n
    child_found n visible (next, rest, held) =
        let in' = h.complete (b ++ n ∷ []) (record { name = n; is = refl; has = record { next = next; rest = rest; held = subst (HasKey s) (append_assoc b (n ∷ []) (next ∷ rest)) held }; visible = visible }) in
        (in'.0, omega (arith, in'.1, long), get_or-map last_segment cs in'.0 (b ++ n ∷ []) n in'.1 ∙ ap last_segment in'.2 ∙ last_segment-child b n)

    -- the names ascend
    ascend : AllPairs (λ m n. bytes_cmp m n ≡ Less) (map last_segment cs)
    ascend i j d l m =
        let inside : j < length cs = omega (arith, m, long) in
        let before : i < length cs = omega (arith, inside, l) in
        let x = get_or cs i [] in
        let y = get_or cs j [] in
        let less : key_cmp x y ≡ Less = strictly_at key_cmp cs h.ascending i j [] l inside in
        let first : get_or (map last_segment cs) i d ≡ last_segment x = get_or-map last_segment cs i [] d before in
        let later : get_or (map last_segment cs) j d ≡ last_segment y = get_or-map last_segment cs j [] d inside in
        ap (λ z. bytes_cmp z (get_or (map last_segment cs) j d)) first ∙ ap (bytes_cmp (last_segment x)) later
        ∙ sym (key_cmp-child b (last_segment x) (last_segment y))
        ∙ ap (λ z. key_cmp z (b ++ last_segment y ∷ [])) (sym (child_is x (h.sound i [] before))) ∙ ap (key_cmp x) (sym (child_is y (h.sound j [] inside))) ∙ less

    -- the last segments of the discovered children are the visible further segments
    pub children_are : IsChildren s b (map last_segment cs)
    children_are = record { found = λ n. (found_child n, λ h. child_found n h.0 h.1); ascending = ascend }
