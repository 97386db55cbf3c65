-- Why the prefixes of `list_dir`, filtered and sorted by name, are the visible children.
use Rattle.std.proofs.Common.{◌≡◌, ◌≢◌, ℕ, suc, zero, ◌+◌, ◌<◌, Bool, true, false, not, cond, List, [], ◌∷◌, ◌++◌, length, get_or, refl, sym, ap, subst, ◌∙◌, arith}
use Rattle.std.specs.Prelude.{All, Contains, filter}
use Rattle.std.specs.Ordering.{is_lt, ordering_then}
use Rattle.std.specs.declared.cmp.Ordering.{Ordering}
use Rattle.std.specs.declared.cmp.Ordering.TheVariants.{Less, Equal, Greater}
use Rattle.std.specs.Cmp.{IsTotalOrder}
use Rattle.std.specs.FinMap.{IsAntisymmetric, slice_cmp-IsAntisymmetric, nat_cmp-IsAntisymmetric}
use Rattle.std.specs.List.Sorted.{IsSortedBy, IsPermutation}
use Rattle.std.proofs.lemmas.Cmp.{lists_total, nat_list_cmp_total, tied_itself}
use Rattle.std.proofs.lemmas.List.Sorted.{All-permutation, Contains-permutation}
use Rattle.std.proofs.lemmas.List.Elements.{All-filter, filter_passes}
use Rattle.std.proofs.lemmas.List.Kept.{AllPairs-filter}
use Rattle.zarrs_store.specs.Segments.{Segments, bytes_cmp, key_cmp, last_segment, is_reserved}
use Rattle.zarrs_store.specs.Contents.{Values, Lists, IsChildPrefix}
use Rattle.zarrs_store.specs.Children.{IsVisibleChild, AreVisibleChildren}
use Rattle.zarrs_store.specs.StepsOfStores.{is_visible}
use Rattle.zarrs_store.proofs.AscendingLists.{strictly_from_sorted}

-- the order of keys by their segments is total
pub key_cmp_total : IsTotalOrder key_cmp
key_cmp_total = lists_total nat_list_cmp_total

-- keys that are equal by this order are one
pub key_cmp-IsAntisymmetric : IsAntisymmetric key_cmp
key_cmp-IsAntisymmetric = slice_cmp-IsAntisymmetric (slice_cmp-IsAntisymmetric nat_cmp-IsAntisymmetric)

-- the last segment of a prefix and a name is the name
pub last_segment-child : (p : Segments) (name : List ℕ) → last_segment (p ++ name ∷ []) ≡ name
last_segment-child [] name = refl
last_segment-child (s ∷ []) name = refl
last_segment-child (s ∷ t ∷ ss) name = last_segment-child (t ∷ ss) name

-- an order, and then `Equal`, is that order
then_equal : (o : Ordering) → ordering_then o Equal ≡ o
then_equal Less = refl
then_equal Equal = refl
then_equal Greater = refl

-- children of one prefix are in the order of their names
pub key_cmp-child : (p : Segments) (m n : List ℕ) → key_cmp (p ++ m ∷ []) (p ++ n ∷ []) ≡ bytes_cmp m n
key_cmp-child [] m n = then_equal (bytes_cmp m n)
key_cmp-child (s ∷ ss) m n = ap (λ r. ordering_then r (key_cmp (ss ++ m ∷ []) (ss ++ n ∷ []))) (tied_itself nat_list_cmp_total s) ∙ key_cmp-child ss m n

-- an item at a place of a list is in what a filter keeps where it passes
at_filter : {X : Type 0} (p : X → Bool) (xs : List X) (x : X) (k : ℕ) → k < length xs → get_or xs k x ≡ x → p x ≡ true → Contains (filter p xs) x
at_filter p [] x k h is ok = absurd (omega arith)
at_filter p (y ∷ ys) x zero h is ok =
    let e : p y ≡ true = ap p is ∙ ok in
    subst (λ b. Contains (cond b (y ∷ filter p ys) (filter p ys)) x) (sym e) (0, omega arith, is)
at_filter p (y ∷ ys) x (suc k) h is ok =
    let rest : Contains (filter p ys) x = at_filter p ys x k (omega arith) is ok in
    let lt : rest.0 < length (filter p ys) = rest.1 in
    elim (p y) as (λ b. Contains (cond b (y ∷ filter p ys) (filter p ys)) x) [
      | true ↦ (suc rest.0, omega arith, rest.2)
      | false ↦ rest
    ]

-- a filter keeps what passes
pub Contains-filter : {X : Type 0} (p : X → Bool) (xs : List X) (x : X) → Contains xs x → p x ≡ true → Contains (filter p xs) x
Contains-filter p xs x c ok = at_filter p xs x c.0 c.1 c.2 ok

-- the last segment of one prefix is before that of another by its bytes
abbrev pub name_lt : Segments → Segments → Bool
name_lt x y = is_lt (bytes_cmp (last_segment x) (last_segment y))

-- a test whose negation is true is false
not_true : (b : Bool) → not b ≡ true → b ≡ false
not_true true e = cc
not_true false e = refl

module _ (S : Values) (p : Segments) where
  -- the last segment of a child is its name
  name_of : (c : Segments) (name : List ℕ) → c ≡ p ++ name ∷ [] → last_segment c ≡ name
  name_of c name is = ap last_segment is ∙ last_segment-child p name

  -- a child prefix that passes the test is a visible child
  visible_child : (c : Segments) → IsChildPrefix S p c → is_visible c ≡ true → IsVisibleChild S p c
  visible_child c child ok = record {
    name = child.name;
    is = child.is;
    has = child.has;
    visible = not_true _ (ap (λ n. not (is_reserved n)) (sym (name_of c child.name child.is)) ∙ ok);
  }

  -- a visible child passes the test
  passes : (c : Segments) → IsVisibleChild S p c → is_visible c ≡ true
  passes c v = ap (λ n. not (is_reserved n)) (name_of c v.name v.is) ∙ ap not v.visible

  -- visible children are in the order of their last segments
  by_names : (x y : Segments) → IsVisibleChild S p x → IsVisibleChild S p y → key_cmp x y ≡ bytes_cmp (last_segment x) (last_segment y)
  by_names x y v w =
      ap (λ z. key_cmp z y) v.is ∙ ap (key_cmp (p ++ v.name ∷ [])) w.is ∙ key_cmp-child p v.name w.name
      ∙ ap (λ n. bytes_cmp n w.name) (sym (name_of x v.name v.is)) ∙ ap (bytes_cmp (last_segment x)) (sym (name_of y w.name w.is))

  -- the child prefixes that pass the test, sorted by their names, are the visible children
  pub children_from_listed : (listed kept sorted : List Segments)
      → Lists (IsChildPrefix S p) listed → kept ≡ filter is_visible listed → IsPermutation kept sorted
      → IsSortedBy (λ x y. is_lt (bytes_cmp (last_segment x) (last_segment y))) sorted
      → AreVisibleChildren S p sorted
  children_from_listed listed kept sorted all is moved up =
      let moved' : IsPermutation (filter is_visible listed) sorted = subst (λ ks. IsPermutation ks sorted) is moved in
      let children : All (IsChildPrefix S p) (filter is_visible listed) = All-filter is_visible (IsChildPrefix S p) listed all.sound in
      let sound : All (IsVisibleChild S p) sorted =
      All-permutation (IsVisibleChild S p) (filter is_visible listed) sorted moved'
      (λ k d h. visible_child _ (children k d h) (filter_passes is_visible listed k d h)) in
      record {
        ascending = strictly_from_sorted key_cmp_total key_cmp-IsAntisymmetric (filter is_visible listed) sorted
            (AllPairs-filter (λ x y. x ≢ y) is_visible listed all.each_once) moved'
            (λ k d low high. ap is_lt (by_names _ _ (sound (k + 1) d high) (sound k d (omega arith))) ∙ up k d low high);
        sound = sound;
        complete = λ child v. Contains-permutation (filter is_visible listed) sorted child moved'
            (Contains-filter is_visible listed child (all.complete child (record { name = v.name; is = v.is; has = v.has })) (passes child v));
      }
