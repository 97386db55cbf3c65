-- Why the walk ends: the beginnings of keys that are still ahead grow fewer.
use Rattle.std.proofs.Common.{◌≡◌, ℕ, ◌+◌, ◌<◌, ◌≤◌, ◌⊎◌, inl, inr, ⊎_elim, Bool, true, false, cond, ◌||◌, not, List, [], ◌∷◌, ◌++◌, map, refl, sym, ap, subst, ◌∙◌, arith, Contains, Less, true≢false, Ordering, Equal, Greater}
use Rattle.std.proofs.lemmas.List.Elements.{Contains-append_left, Contains-append_right}
use Rattle.std.specs.List.{count_by, list_any}
use Rattle.std.proofs.lemmas.List.{get_or-map, length-map}
use Rattle.std.proofs.lemmas.List.Sums.{sum_by-cons}
use Rattle.std.specs.Ordering.{is_lt, eq_by_cmp}
use Rattle.std.specs.FinMap.{keys, contains_key-keys}
use Rattle.zarrs_path.specs.Paths.{Path, path_cmp}
use Rattle.zarrs_store.specs.Contents.{Contents, HasBelow}
use Rattle.zarrs_store.specs.Segments.{Segments, key_cmp}
use Rattle.zarrs_store.proofs.ChildLemmas.{key_cmp-IsAntisymmetric}
use Rattle.zarrs_store.proofs.EntryLemmas.{equal_of}
use Rattle.zarrs_node.proofs.ForestsBeside.{Contains-first, Contains-cons}
use Rattle.zarrs_node.proofs.Order.{contains_cases}
use Rattle.zarrs_node.proofs.Unique.{names_total, names_irrefl}

-- the proper beginnings of a key
abbrev pub begins : Segments → List Path
begins [] = []
begins (n ∷ ns) = [] ∷ map (λ p. n ∷ p) (begins ns)

-- the proper beginnings of keys
abbrev pub all_begins : List Segments → List Path
all_begins [] = []
all_begins (k ∷ ks) = begins k ++ all_begins ks

-- x is not before some of the paths
abbrev pub ahead_of : List Path → Path → Bool
ahead_of ps x = list_any (λ q. not (is_lt (path_cmp x q))) ps

-- how many beginnings of keys are not before some of the paths
unfoldable pub ahead : Contents → List Path → ℕ
ahead s ps = count_by (ahead_of ps) (all_begins (keys s.values))

-- ---- beginnings of keys

-- what is in a list is, changed, in the list changed
contains_map : {A B : Type 0} (f : A → B) (xs : List A) (x : A) → Contains xs x → Contains (map f xs) (f x)
contains_map f xs x h = let long = length-map xs f in (h.0, omega (arith, h.1, long), get_or-map f xs h.0 x (f x) h.1 ∙ ap f h.2)

-- a proper beginning of a key is one of them
begins_in : (p : Path) (n : List ℕ) (ns : Path) → Contains (begins (p ++ n ∷ ns)) p
begins_in [] n ns = Contains-first [] (map (λ p. n ∷ p) (begins ns))
begins_in (m ∷ p) n ns = Contains-cons [] (map (λ q. m ∷ q) (begins (p ++ n ∷ ns))) (m ∷ p) (contains_map (λ q. m ∷ q) (begins (p ++ n ∷ ns)) p (begins_in p n ns))

-- of two tests of which one passes, the first or the second passes
or_cases : (a b : Bool) → (a || b) ≡ true → (a ≡ true) ⊎ (b ≡ true)
or_cases true b h = inl refl
or_cases false b h = inr h

-- a proper beginning of one of some keys is one of theirs
begins_some : (p : Path) (n : List ℕ) (ns : Path) (ks : List Segments) → list_any (eq_by_cmp key_cmp (p ++ n ∷ ns)) ks ≡ true → Contains (all_begins ks) p
begins_some p n ns [] h = absurd (true≢false (sym h))
begins_some p n ns (k ∷ ks) h = ⊎_elim
    (λ e. Contains-append_left (begins k) (all_begins ks) p (subst (λ x. Contains (begins x) p) (key_cmp-IsAntisymmetric (p ++ n ∷ ns) k (equal_of (key_cmp (p ++ n ∷ ns) k) e)) (begins_in p n ns)))
    (λ e. Contains-append_right (begins k) (all_begins ks) p (begins_some p n ns ks e))
    (or_cases (eq_by_cmp key_cmp (p ++ n ∷ ns) k) (list_any (eq_by_cmp key_cmp (p ++ n ∷ ns)) ks) h)

-- what has a key below it is a beginning of a key
is_beginning : (s : Contents) (p : Path) → HasBelow s.values p → Contains (all_begins (keys s.values)) p
is_beginning s p (n, ns, there) = begins_some p n ns (keys s.values) (sym (contains_key-keys s.values (p ++ n ∷ ns)) ∙ there)

-- ---- counting

-- a test that passes only where another does counts no more
one_le : (a b : Bool) → (a ≡ true → b ≡ true) → cond a 1 0 ≤ cond b 1 0
one_le true b h = subst (λ x. 1 ≤ cond x 1 0) (sym (h refl)) (omega arith)
one_le false b h = omega arith

-- and less where only the other passes
one_less : (a b : Bool) → b ≡ true → a ≡ false → cond a 1 0 < cond b 1 0
one_less a b t f = subst (λ y. cond a 1 0 < cond y 1 0) (sym t) (subst (λ x. cond x 1 0 < 1) (sym f) (omega arith))

-- the items of a longer list that pass a test
count_cons : {A : Type 0} (p : A → Bool) (x : A) (xs : List A) → count_by p (x ∷ xs) ≡ cond (p x) 1 0 + count_by p xs
count_cons p x xs = sum_by-cons (λ y. cond (p y) 1 0) x xs

-- what passes one test passes another
module _ {A : Type 0} (p q : A → Bool) (within : (x : A) → p x ≡ true → q x ≡ true) where
  -- no more items pass the one test than pass the other
  count_le : (xs : List A) → count_by p xs ≤ count_by q xs
  count_le [] = omega arith
  count_le (x ∷ xs) = let a = one_le (p x) (q x) (within x) in let b = count_le xs in omega (arith, a, b, count_cons p x xs, count_cons q x xs)

  -- and fewer of a list with an item at which only the other passes
  count_less : (xs : List A) (y : A) → Contains xs y → q y ≡ true → p y ≡ false → count_by p xs < count_by q xs
  count_less [] y h t f = absurd (omega (arith, h.1))
  count_less (x ∷ xs) y h t f = ⊎_elim
      (λ same. let a = one_less (p x) (q x) (ap q same ∙ t) (ap p same ∙ f) in let b = count_le xs in omega (arith, a, b, count_cons p x xs, count_cons q x xs))
      (λ l. let a = one_le (p x) (q x) (within x) in let b = count_less xs y l t f in omega (arith, a, b, count_cons p x xs, count_cons q x xs))
      (contains_cases x xs y h)

-- ---- what is ahead of some paths

-- some item passes a test that some item passes
any_in : {A : Type 0} (t : A → Bool) (xs : List A) → list_any t xs ≡ true → (x : A) × Contains xs x × (t x ≡ true)
any_in t [] h = absurd (true≢false (sym h))
any_in t (x ∷ xs) h = ⊎_elim (λ e. (x, Contains-first x xs, e)) (λ e. let r = any_in t xs e in (r.0, Contains-cons x xs r.0 r.1, r.2)) (or_cases (t x) (list_any t xs) h)

-- `||` is true where its first test is
or_left : (a b : Bool) → a ≡ true → (a || b) ≡ true
or_left a b h = subst (λ x. (x || b) ≡ true) (sym h) refl

-- `||` is true where its second test is
or_right : (a b : Bool) → b ≡ true → (a || b) ≡ true
or_right true b h = refl
or_right false b h = h

-- where an item of a list passes a test, some item passes it
in_any : {A : Type 0} (t : A → Bool) (xs : List A) (x : A) → Contains xs x → t x ≡ true → list_any t xs ≡ true
in_any t [] x l h = absurd (omega (arith, l.1))
in_any t (y ∷ xs) x l h = ⊎_elim (λ same. or_left (t y) (list_any t xs) (ap t same ∙ h)) (λ m. or_right (t y) (list_any t xs) (in_any t xs x m h)) (contains_cases y xs x l)

-- an order that is not `Less`
not_less : (o : Ordering) → (o ≡ Less → ⊥) → not (is_lt o) ≡ true
not_less Less h = absurd (h refl)
not_less Equal h = refl
not_less Greater h = refl

-- and the other way round
less_not : (o : Ordering) → not (is_lt o) ≡ true → o ≡ Less → ⊥
less_not o h e = true≢false (sym h ∙ ap (λ x. not (is_lt x)) e)

-- where only paths after c are left, and c was among them, fewer beginnings are ahead
pub ahead_less : (s : Contents) (ps qs : List Path) (c : Path) → Contains ps c → HasBelow s.values c → ((q : Path) → Contains qs q → path_cmp c q ≡ Less) → ahead s qs < ahead s ps
unfolding ahead
ahead_less s ps qs c in' below after = count_less (ahead_of qs) (ahead_of ps)
    (λ x h. let (q, l, t) = any_in (λ y. not (is_lt (path_cmp x y))) qs h in
    in_any (λ y. not (is_lt (path_cmp x y))) ps c in' (not_less (path_cmp x c) (λ less. less_not (path_cmp x q) t (names_total.trans x c q less (after q l)))))
    (all_begins (keys s.values)) c (is_beginning s c below)
    (in_any (λ y. not (is_lt (path_cmp c y))) ps c in' (not_less (path_cmp c c) (names_irrefl c)))
    (not_any (λ y. not (is_lt (path_cmp c y))) qs (λ q l t. less_not (path_cmp c q) t (after q l)))
  where
    not_any : {A : Type 0} (t : A → Bool) (xs : List A) → ((x : A) → Contains xs x → t x ≡ true → ⊥) → list_any t xs ≡ false
    not_any t xs h = elim (list_any t xs) as (λ b. list_any t xs ≡ b → list_any t xs ≡ false) [
      | true ↦ λ e. let r = any_in t xs e in absurd (h r.0 r.1 r.2)
      | false ↦ λ e. e
    ] refl
