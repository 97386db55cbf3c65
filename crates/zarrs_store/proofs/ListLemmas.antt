-- What the calls that list a store in memory give, from the keys of its entries.
use Rattle.std.proofs.Common.{◌≡◌, ◌≢◌, ℕ, zero, suc, ◌+◌, ◌<◌, Bool, true, false, cond, List, [], ◌∷◌, ◌++◌, length, get_or, refl, sym, ap, subst, ◌∙◌, Some, None, Option, arith}
use Rattle.std.specs.Prelude.{All, AllPairs, Contains, filter, filter_map, is_some, map}
use Rattle.std.specs.declared.cmp.Ordering.{Ordering}
use Rattle.std.specs.declared.cmp.Ordering.TheVariants.{Less, Equal, Greater}
use Rattle.std.specs.Ordering.{eq_by_cmp, is_eq, is_lt, on, nat_cmp, ordering_then, ordering_reverse}
use Rattle.std.specs.Cmp.{IsTotalOrder}
use Rattle.std.specs.FinMap as finite
use Rattle.std.specs.FinMap.{nat_cmp-IsAntisymmetric}
use Rattle.std.specs.List.{dedup, cons_option}
use Rattle.std.specs.List.Sorted.{IsStrictlySortedBy}
use Rattle.std.specs.Map.{keys_of}
use Rattle.std.specs.Cmp.Lexicographic.{texts_ties}
use Rattle.std.proofs.lemmas.Slice.Eq.{bytes_eq-Decides}
use Rattle.std.proofs.lemmas.Cmp.{tied_itself, on_total, nat_cmp_total, nat_list_cmp_total, nat_list_eq_equiv}
use Rattle.std.proofs.lemmas.List.{append_cancel_left, append_cancel_right, get_or-map, length-map}
use Rattle.std.proofs.lemmas.List.Elements.{All-nil, All-cons, All-head, All-tail, All-filter, filter_passes, Contains-get_or, All-map}
use Rattle.std.proofs.lemmas.List.Filters.{All-dedup}
use Rattle.std.proofs.lemmas.List.Kept.{AllPairs-filter, AllPairs-cons, Contains-dedup, IsStrictlySortedBy-dedup}
use Rattle.std.proofs.lemmas.Map.Keys.{IsDistinct-from_sorted, apart_from_distinct, sorted_tail}
use Rattle.std.proofs.lemmas.Map.Views.{All-after_first}
use Rattle.zarrs_store.specs.Segments.{Segments, bytes_cmp, bytes_eq, key_cmp, key_text, prefix_text, IsKey, IsSegment}
use Rattle.zarrs_store.specs.Contents.{HasKey, Lists, IsKeyBelow, IsChildKey, IsChildPrefix}
use Rattle.zarrs_store.specs.Entries.{beyond, is_below}
use Rattle.zarrs_store.specs.StepsOfStores.{is_one, is_child_key, first_of_more, child_name, child_of, child_names, child_prefixes}
use Rattle.zarrs_store.proofs.ChildLemmas.{key_cmp_total, key_cmp-IsAntisymmetric, Contains-filter}
use Rattle.zarrs_store.proofs.BelowLemmas.{beyond-append, from_beyond, all_behind, key_text-below}
use Rattle.zarrs_store.proofs.EntryLemmas.{text_cmp_total, equal_of, shown, HoldsKeys}
use Rattle.zarrs_store.specs.Places.{text_cmp}

-- strictly sorted lists have no item twice
pub once_from_sorted : {K : Type 0} {R : K → K → Ordering} (o : IsTotalOrder R) (xs : List K) → IsStrictlySortedBy R xs → AllPairs (λ x y. x ≢ y) xs
once_from_sorted {R = R} o xs up =
    λ i j d h l e.
    let apart = apart_from_distinct (eq_by_cmp R) xs i j d (IsDistinct-from_sorted R xs up) h l in
    let tied : eq_by_cmp R (get_or xs i d) (get_or xs j d) ≡ true = ap is_eq (ap (R (get_or xs i d)) (sym e) ∙ tied_itself o (get_or xs i d)) in
    let both : true ≡ false = sym tied ∙ apart in
    cc

module _ {X : Type 0} (f : X → List ℕ) where
  -- the key at a place of the keys is found
  found_at : (q : Segments) (es : List (Segments × X)) (k : ℕ) → k < length (keys_of es) → get_or (keys_of es) k q ≡ q → is_some (finite.find key_cmp q (shown f es)) ≡ true
  found_at q [] k l e = absurd (omega arith)
  found_at q (x ∷ es) zero l e =
      ap (λ b. is_some (cond b (Some (f x.1)) (finite.find key_cmp q (shown f es)))) (ap is_eq (ap (key_cmp q) e ∙ tied_itself key_cmp_total q))
  found_at q (x ∷ es) (suc k) l e =
      elim (eq_by_cmp key_cmp q x.0) as (λ b. is_some (cond b (Some (f x.1)) (finite.find key_cmp q (shown f es))) ≡ true) [
        | true ↦ refl
        | false ↦ found_at q es k (omega arith) e
      ]

  -- a key that is found is one of the keys
  listed_from : (q : Segments) (es : List (Segments × X)) → is_some (finite.find key_cmp q (shown f es)) ≡ true → Contains (keys_of es) q
  listed_from q [] e = cc
  listed_from q (x ∷ es) e =
      elim (eq_by_cmp key_cmp q x.0) as (λ b. eq_by_cmp key_cmp q x.0 ≡ b → is_some (cond b (Some (f x.1)) (finite.find key_cmp q (shown f es))) ≡ true → Contains (keys_of (x ∷ es)) q) [
        | true ↦ λ t _. (0, omega arith, sym (key_cmp-IsAntisymmetric q x.0 (equal_of _ t)))
        | false ↦ λ _ h.
            let rest : Contains (keys_of es) q = listed_from q es h in
            let lt : rest.0 < length (keys_of es) = rest.1 in
            (suc rest.0, omega arith, rest.2)
      ] refl e

  module _ (es : List (Segments × X)) where
    pub has_key : (q : Segments) → Contains (keys_of es) q → HasKey (finite.from_entries {R = key_cmp} (shown f es)) q
    has_key q c = ap is_some (finite.get-from_entries key_cmp_total (shown f es) q) ∙ found_at q es c.0 c.1 c.2

    pub is_listed : (q : Segments) → HasKey (finite.from_entries {R = key_cmp} (shown f es)) q → Contains (keys_of es) q
    is_listed q h = listed_from q es (ap is_some (sym (finite.get-from_entries key_cmp_total (shown f es) q)) ∙ h)

    all_held : All (HasKey (finite.from_entries {R = key_cmp} (shown f es))) (keys_of es)
    all_held k d l = has_key _ (Contains-get_or (keys_of es) k d l)

    pub Lists-all : IsStrictlySortedBy text_cmp (keys_of es) → Lists (HasKey (finite.from_entries {R = key_cmp} (shown f es))) (keys_of es)
    Lists-all up = record { each_once = once_from_sorted text_cmp_total (keys_of es) up; sound = all_held; complete = is_listed }

    -- a test that tells the keys of which P holds
    pub Lists-filter : (P : Segments → Type 0) (p : Segments → Bool)
        → ((q : Segments) → HasKey (finite.from_entries {R = key_cmp} (shown f es)) q → p q ≡ true → P q)
        → ((q : Segments) → P q → HasKey (finite.from_entries {R = key_cmp} (shown f es)) q × (p q ≡ true))
        → IsStrictlySortedBy text_cmp (keys_of es) → Lists P (filter p (keys_of es))
    Lists-filter P p says tells up = record {
      each_once = AllPairs-filter (λ x y. x ≢ y) p (keys_of es) (once_from_sorted text_cmp_total (keys_of es) up);
      sound = λ k d l. says _ (All-filter p (HasKey (finite.from_entries {R = key_cmp} (shown f es))) (keys_of es) all_held k d l) (filter_passes p (keys_of es) k d l);
      complete = λ q h. let t = tells q h in Contains-filter p (keys_of es) q (is_listed q t.0) t.1;
    }

-- where an option has segments, there are the segments that it has
below_is : (o : Option Segments) → is_some o ≡ true → (r : Segments) × (o ≡ Some r)
below_is None e = cc
below_is (Some r) e = (r, refl)

-- where an option has just one segment, there is the name that it has
one_is : (o : Option Segments) → is_one o ≡ true → (n : List ℕ) × (o ≡ Some (n ∷ []))
one_is None e = cc
one_is (Some []) e = cc
one_is (Some (n ∷ [])) e = (n, refl)
one_is (Some (n ∷ m ∷ r)) e = cc

module _ {X : Type 0} (f : X → List ℕ) (es : List (Segments × X)) (p : Segments) (up : IsStrictlySortedBy text_cmp (keys_of es)) where
  -- the keys that pass the test are those below the prefix, each once
  pub Lists-below : Lists (IsKeyBelow (finite.from_entries {R = key_cmp} (shown f es)) p) (filter (is_below p) (keys_of es))
  Lists-below =
      Lists-filter f es (IsKeyBelow (finite.from_entries {R = key_cmp} (shown f es)) p) (is_below p)
      (λ q held e.
      let r = below_is (beyond p q) e in
      let b = from_beyond p q r.0 r.1 in
      record { first = b.name; rest = b.more; is = b.is; held = held })
      (λ q h. (h.held, ap is_some (ap (beyond p) h.is ∙ beyond-append p h.first h.rest)))
      up

  -- the keys that pass its test are those directly below the prefix, each once
  pub Lists-child_keys : Lists (IsChildKey (finite.from_entries {R = key_cmp} (shown f es)) p) (filter (is_child_key p) (keys_of es))
  Lists-child_keys =
      Lists-filter f es (IsChildKey (finite.from_entries {R = key_cmp} (shown f es)) p) (is_child_key p)
      (λ q held e.
      let r = one_is (beyond p q) e in
      let b = from_beyond p q (r.0 ∷ []) r.1 in
      record { name = r.0; is = b.is ∙ ap (λ x. p ++ x) (sym b.found); held = held })
      (λ q h. (h.held, ap is_one (ap (beyond p) h.is ∙ beyond-append p h.name [])))
      up

module _ {X Y : Type 0} (h : X → Option Y) where
  -- what a function gives of items is such
  pub All-filter_map : (Q : X → Type 0) (P : Y → Type 0) → ((x : X) (y : Y) → Q x → h x ≡ Some y → P y) → (xs : List X) → All Q xs → All P (filter_map h xs)
  All-filter_map Q P gives [] all = All-nil P
  All-filter_map Q P gives (x ∷ xs) all =
      let rest : All P (filter_map h xs) = All-filter_map Q P gives xs (All-tail Q x xs all) in
      elim (h x) as (λ o. h x ≡ o → All P (cons_option o (filter_map h xs))) [
        | None ↦ λ _. rest
        | Some y ↦ λ e. All-cons P y (filter_map h xs) (gives x y (All-head Q x xs all) e) rest
      ] refl

  -- what a function gives of an item at a place is in what it gives of the list
  in_filter_map : (xs : List X) (x : X) (y : Y) (k : ℕ) → k < length xs → get_or xs k x ≡ x → h x ≡ Some y → Contains (filter_map h xs) y
  in_filter_map [] x y k l e s = absurd (omega arith)
  in_filter_map (z ∷ xs) x y zero l e s =
      subst (λ o. Contains (cons_option o (filter_map h xs)) y) (sym (ap h e ∙ s)) (0, omega arith, refl)
  in_filter_map (z ∷ xs) x y (suc k) l e s =
      let rest : Contains (filter_map h xs) y = in_filter_map xs x y k (omega arith) e s in
      let lt : rest.0 < length (filter_map h xs) = rest.1 in
      elim (h z) as (λ o. Contains (cons_option o (filter_map h xs)) y) [
        | None ↦ rest
        | Some w ↦ (suc rest.0, omega arith, rest.2)
      ]

-- ---- the names of children

-- a name in the order of child prefixes: by its bytes and a slash
abbrev slashed : List ℕ → List ℕ
slashed n = n ++ 47 ∷ []

-- the order of names as child prefixes
abbrev name_cmp : List ℕ → List ℕ → Ordering
name_cmp = on slashed bytes_cmp

-- names are equal just where they are with a slash behind each
slashed_eq : (m n : List ℕ) → bytes_eq m n ≡ bytes_eq (slashed m) (slashed n)
slashed_eq m n =
    elim (bytes_eq m n) as (λ b. bytes_eq m n ≡ b → b ≡ bytes_eq (slashed m) (slashed n)) [
      | true ↦ λ e. sym ((bytes_eq-Decides (slashed m) (slashed n)).1 (ap slashed ((bytes_eq-Decides m n).0 e)))
      | false ↦ λ e. elim (bytes_eq (slashed m) (slashed n)) as (λ b. bytes_eq (slashed m) (slashed n) ≡ b → false ≡ b) [
        | true ↦ λ f. let same = (bytes_eq-Decides m n).1 (append_cancel_right m n (47 ∷ []) ((bytes_eq-Decides (slashed m) (slashed n)).0 f)) in cc
        | false ↦ λ _. refl
      ] refl
    ] refl

-- two names are equal just where this order ties them
name_ties : (m n : List ℕ) → bytes_eq m n ≡ eq_by_cmp name_cmp m n
name_ties m n = slashed_eq m n ∙ texts_ties (slashed m) (slashed n)

-- three orders one after another decide the same, in whichever way they are put together
then_assoc : (a b c : Ordering) → ordering_then (ordering_then a b) c ≡ ordering_then a (ordering_then b c)
then_assoc Less b c = refl
then_assoc Equal b c = refl
then_assoc Greater b c = refl

-- where two bytes differ, nothing behind them decides
decided : (a b : ℕ) (r s t : Ordering) → a ≢ b → ordering_then (nat_cmp a b) r ≡ ordering_then (ordering_then (nat_cmp a b) s) t
decided a b r s t apart =
    elim (nat_cmp a b) as (λ o. nat_cmp a b ≡ o → ordering_then o r ≡ ordering_then (ordering_then o s) t) [
      | Less ↦ λ _. refl
      | Equal ↦ λ e. absurd (apart (nat_cmp-IsAntisymmetric a b e))
      | Greater ↦ λ _. refl
    ] refl

-- texts with a slash are ordered by what stands before it, with the slash, and then by what stands behind
cut_cmp : (m n r s : List ℕ) → All (λ b. b ≢ 47) m → All (λ b. b ≢ 47) n → bytes_cmp (m ++ 47 ∷ r) (n ++ 47 ∷ s) ≡ ordering_then (name_cmp m n) (bytes_cmp r s)
cut_cmp [] [] r s h k = sym (then_assoc (nat_cmp 47 47) Equal (bytes_cmp r s))
cut_cmp [] (c ∷ n) r s h k = decided 47 c _ _ _ (λ e. All-head (λ b. b ≢ 47) c n k (sym e))
cut_cmp (b ∷ m) [] r s h k = decided b 47 _ _ _ (All-head (λ b. b ≢ 47) b m h)
cut_cmp (b ∷ m) (c ∷ n) r s h k =
    ap (ordering_then (nat_cmp b c)) (cut_cmp m n r s (All-tail (λ b. b ≢ 47) b m h) (All-tail (λ b. b ≢ 47) c n k))
    ∙ sym (then_assoc (nat_cmp b c) (name_cmp m n) (bytes_cmp r s))

-- what begins alike is ordered by the rest
same_start : (p a b : List ℕ) → bytes_cmp (p ++ a) (p ++ b) ≡ bytes_cmp a b
same_start [] a b = refl
same_start (c ∷ p) a b = ap (λ o. ordering_then o (bytes_cmp (p ++ a) (p ++ b))) (tied_itself nat_cmp_total c) ∙ same_start p a b

-- where two orders one after the other give `Less`, the reverse of the first is not `Less`
first_not_greater : (a b : Ordering) → ordering_then a b ≡ Less → is_lt (ordering_reverse a) ≡ false
first_not_greater Less b e = refl
first_not_greater Equal b e = refl
first_not_greater Greater b e = cc

-- the segments of a key that stands in the child of this name
pub record IsIn (p k : Segments) (name : List ℕ) : Type 0 where
  pub next : List ℕ
  pub rest : Segments
  pub is : k ≡ p ++ name ∷ next ∷ rest

-- segments of which a name is the first of more are the name, another segment and the rest
first_of_more_is : (t : Segments) (name : List ℕ) → first_of_more (Some t) ≡ Some name → (next : List ℕ) × (rest : Segments) × (t ≡ name ∷ next ∷ rest)
first_of_more_is [] name e = cc
first_of_more_is (n ∷ []) name e = cc
first_of_more_is (n ∷ m ∷ r) name e = (m, r, ap (λ x. x ∷ m ∷ r) (let same : n ≡ name = cc in same))

-- a key that has this name of a child stands in that child
pub is_in : (p k : Segments) (name : List ℕ) → child_name p k ≡ Some name → IsIn p k name
is_in p k name e =
    elim (beyond p k) as (λ o. beyond p k ≡ o → first_of_more o ≡ Some name → IsIn p k name) [
      | None ↦ λ _ f. cc
      | Some t ↦ λ some f.
          let b = from_beyond p k t some in
          let g = first_of_more_is t name f in
          record { next = g.0; rest = g.1; is = b.is ∙ ap (λ x. p ++ x) (sym b.found ∙ g.2) }
    ] refl e

-- the name is a segment where the key is one of segments
name_segment : (p k : Segments) (name : List ℕ) → IsKey k → IsIn p k name → IsSegment name
name_segment p k name key h = All-head IsSegment name (h.next ∷ h.rest) (all_behind p (name ∷ h.next ∷ h.rest) (subst (All IsSegment) h.is key.each))

-- of two keys in order, the names of their children are in order
names_later : (p k q : Segments) (m n : List ℕ) → IsKey k → IsKey q → text_cmp k q ≡ Less → child_name p k ≡ Some m → child_name p q ≡ Some n → is_lt (name_cmp n m) ≡ false
names_later p k q m n key later less e f =
    let h = is_in p k m e in
    let g = is_in p q n f in
    let both : ordering_then (name_cmp m n) (bytes_cmp (key_text (h.next ∷ h.rest)) (key_text (g.next ∷ g.rest))) ≡ Less =
    sym (ap (λ x. bytes_cmp x (key_text q)) (ap key_text h.is ∙ key_text-below p m (h.next ∷ h.rest))
    ∙ ap (bytes_cmp (prefix_text p ++ key_text (m ∷ h.next ∷ h.rest))) (ap key_text g.is ∙ key_text-below p n (g.next ∷ g.rest))
    ∙ same_start (prefix_text p) (key_text (m ∷ h.next ∷ h.rest)) (key_text (n ∷ g.next ∷ g.rest))
    ∙ cut_cmp m n _ _ ((name_segment p k m key h).no_slash) ((name_segment p q n later g).no_slash)) ∙ less in
    ap is_lt ((on_total slashed nat_list_cmp_total).antisymm n m) ∙ first_not_greater (name_cmp m n) _ both

-- the names of children of keys in order are in order
names_sorted : (p : Segments) (ks : List Segments) → IsStrictlySortedBy text_cmp ks → All IsKey ks → AllPairs (λ m n. is_lt (name_cmp n m) ≡ false) (filter_map (child_name p) ks)
names_sorted p [] up keys = λ i j d l h. absurd (omega (arith, h))
names_sorted p (k ∷ ks) up keys =
    let rest = names_sorted p ks (sorted_tail text_cmp k ks up) (All-tail IsKey k ks keys) in
    let key = All-head IsKey k ks keys in
    elim (child_name p k) as (λ o. child_name p k ≡ o → AllPairs (λ m n. is_lt (name_cmp n m) ≡ false) (cons_option o (filter_map (child_name p) ks))) [
      | None ↦ λ _. rest
      | Some m ↦ λ e.
          AllPairs-cons (λ m n. is_lt (name_cmp n m) ≡ false) m (filter_map (child_name p) ks)
          (All-filter_map (child_name p) (λ q. IsKey q × (text_cmp k q ≡ Less)) (λ n. is_lt (name_cmp n m) ≡ false)
          (λ q n h f. names_later p k q m n key h.0 h.1 e f) ks
          (λ i d l. (All-tail IsKey k ks keys i d l, All-after_first text_cmp k ks up i d l)))
          rest
    ] refl

-- names that make the same child of a prefix are one
child_injective : (p : Segments) (m n : List ℕ) → child_of p m ≡ child_of p n → m ≡ n
child_injective p m n e = let f : m ∷ [] ≡ n ∷ [] = append_cancel_left p (m ∷ []) (n ∷ []) e in cc

-- different items give different values of an injective function
apart-map : {X Y : Type 0} (g : X → Y) → ((a b : X) → g a ≡ g b → a ≡ b) → (x : X) (xs : List X) → AllPairs (λ a b. a ≢ b) xs → AllPairs (λ a b. a ≢ b) (map g xs)
apart-map g inj x xs apart i j d l h e =
    let long = length-map xs g in
    let inside : j < length xs = omega (arith, h, long) in
    let before : i < length xs = omega (arith, inside, l) in
    apart i j x l inside (inj _ _ (sym (get_or-map g xs i x d before) ∙ e ∙ get_or-map g xs j x d inside))

-- what is in a list is in what a function makes of it
Contains-map : {X Y : Type 0} (g : X → Y) (xs : List X) (x : X) → Contains xs x → Contains (map g xs) (g x)
Contains-map g xs x (k, lt, e) = let long = length-map xs g in (k, omega (arith, lt, long), get_or-map g xs k x (g x) lt ∙ ap g e)

module _ {X : Type 0} (f : X → List ℕ) (es : List (Segments × X)) (p : Segments) (keys : HoldsKeys es) (up : IsStrictlySortedBy text_cmp (keys_of es)) where
  -- the store has the key
  abbrev held : Segments → Type 0
  held = HasKey (finite.from_entries {R = key_cmp} (shown f es))

  -- the store has the key, and it is one of segments
  record IsHeld (k : Segments) : Type 0 where
    is_held : held k
    is_key : IsKey k

  -- the keys of the entries are held, and keys
  all_keys : All IsHeld (keys_of es)
  all_keys k d l = record { is_held = has_key f es _ (Contains-get_or (keys_of es) k d l); is_key = All-map IsKey (λ (e : Segments × X). e.0) es keys k d l }

  -- the names of their children
  abbrev names : List (List ℕ)
  names = filter_map (child_name p) (keys_of es)

  -- the child of this name is a child prefix
  abbrev IsGood : List ℕ → Type 0
  IsGood n = IsChildPrefix (finite.from_entries {R = key_cmp} (shown f es)) p (child_of p n)

  -- a key in the child of a name makes that a child prefix
  good : (k : Segments) (n : List ℕ) → IsHeld k → child_name p k ≡ Some n → IsGood n
  good k n h e =
      let g = is_in p k n e in
      record { name = n; is = refl; has = record { next = g.next; rest = g.rest; held = subst held g.is h.is_held } }

  -- the child of each of the names is a child prefix
  all_good : All IsGood names
  all_good = All-filter_map (child_name p) IsHeld IsGood good (keys_of es) all_keys

  -- each child's name is among them
  name_listed : (c : Segments) (h : IsChildPrefix (finite.from_entries {R = key_cmp} (shown f es)) p c) → Contains names h.name
  name_listed c h =
      let k = is_listed f es (p ++ h.name ∷ h.has.next ∷ h.has.rest) h.has.held in
      in_filter_map (child_name p) (keys_of es) (p ++ h.name ∷ h.has.next ∷ h.has.rest) h.name k.0 k.1 k.2
      (ap first_of_more (beyond-append p h.name (h.has.next ∷ h.has.rest)))

  -- each name once
  names_once : AllPairs (λ m n. m ≢ n) (dedup bytes_eq names)
  names_once =
      let sorted = names_sorted p (keys_of es) up (λ k d l. (all_keys k d l).is_key) in
      once_from_sorted (on_total slashed nat_list_cmp_total) (dedup bytes_eq names)
      (IsStrictlySortedBy-dedup (on_total slashed nat_list_cmp_total) name_ties names (λ k d low high. sorted k (k + 1) d (omega arith) high))

  -- the children of those names are the child prefixes
  pub Lists-child_prefixes : Lists (IsChildPrefix (finite.from_entries {R = key_cmp} (shown f es)) p) (child_prefixes p (keys_of es))
  Lists-child_prefixes = record {
    each_once = apart-map (child_of p) (child_injective p) [] (child_names p (keys_of es)) names_once;
    sound = All-map (IsChildPrefix (finite.from_entries {R = key_cmp} (shown f es)) p) (child_of p) (child_names p (keys_of es))
        (All-dedup bytes_eq IsGood names all_good);
    complete = λ c h.
        subst (Contains (child_prefixes p (keys_of es))) (sym h.is)
        (Contains-map (child_of p) (child_names p (keys_of es)) h.name
        (Contains-dedup nat_list_eq_equiv (λ x y. (bytes_eq-Decides x y).0) names h.name (name_listed c h)));
  }
