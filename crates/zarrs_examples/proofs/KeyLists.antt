-- What a store answers that can only list all its keys.
use Rattle.std.proofs.Common.{◌≡◌, ◌≢◌, ◌↔◌, ◌⊎◌, ℕ, Bool, true, false, cond, List, [], ◌∷◌, ◌++◌, get_or, refl, sym, ap, subst, ◌∙◌, Some, None, Option, inl, inr, arith}
use Rattle.std.specs.Prelude.{Contains, filter, is_some}
use Rattle.std.specs.Ordering.{eq_by_cmp}
use Rattle.std.specs.FinMap as finite
use Rattle.std.proofs.lemmas.List.Elements.{All-filter, filter_passes, Contains-push, Contains-push_cases, Contains-append_left}
use Rattle.std.proofs.lemmas.List.Kept.{AllPairs-filter}
use Rattle.zarrs_store.specs.Segments.{Segments, key_cmp}
use Rattle.zarrs_store.specs.Contents.{Values, HasKey, Lists, IsKeyBelow, IsChildKey, IsChildPrefix}
use Rattle.zarrs_store.specs.Entries.{beyond, is_below}
use Rattle.zarrs_store.proofs.ChildLemmas.{key_cmp_total, key_cmp-IsAntisymmetric, Contains-filter}
use Rattle.zarrs_store.proofs.BelowLemmas.{beyond-append, from_beyond}
use Rattle.zarrs_store.proofs.ContentsLemmas.{tied}
use Rattle.zarrs_store.proofs.EntryLemmas.{equal_of}
use Rattle.zarrs_examples.specs.StepsOfOwnStores.{HasOnly}

-- where an option has segments, there are the segments that it has
beyond_is : (o : Option Segments) → is_some o ≡ true → (r : Segments) × (o ≡ Some r)
beyond_is None e = cc
beyond_is (Some r) e = (r, refl)

-- of all keys of a store, those below a prefix are the keys below it
pub Lists-with_prefix : (S : Values) (p : Segments) (keys : List Segments) → Lists (HasKey S) keys → Lists (IsKeyBelow S p) (filter (is_below p) keys)
Lists-with_prefix S p keys all = record {
  each_once = AllPairs-filter (λ x y. x ≢ y) (is_below p) keys all.each_once;
  sound = λ k d l.
      let key = get_or (filter (is_below p) keys) k d in
      let r = beyond_is (beyond p key) (filter_passes (is_below p) keys k d l) in
      let b = from_beyond p key r.0 r.1 in
      record { first = b.name; rest = b.more; is = b.is; held = All-filter (is_below p) (HasKey S) keys all.sound k d l };
  complete = λ key h.
      Contains-filter (is_below p) keys key (all.complete key h.held) (ap is_some (ap (beyond p) h.is ∙ beyond-append p h.first h.rest));
}

-- what stands directly below a prefix is the same in two stores with the same keys
module _ (S T : Values) (same : (key : Segments) → HasKey S key ↔ HasKey T key) (p : Segments) where
  -- a key
  child_key : (key : Segments) → IsChildKey S p key → IsChildKey T p key
  child_key key h = record { name = h.name; is = h.is; held = (same key).0 h.held }

  -- a child prefix
  child_prefix : (c : Segments) → IsChildPrefix S p c → IsChildPrefix T p c
  child_prefix c h = record {
    name = h.name;
    is = h.is;
    has = record { next = h.has.next; rest = h.has.rest; held = (same (p ++ h.name ∷ h.has.next ∷ h.has.rest)).0 h.has.held };
  }

-- what has exactly the items of one property has exactly those of another that says the same
listed_as : {A : Type 0} (P Q : A → Type 0) → ((x : A) → P x → Q x) → ((x : A) → Q x → P x) → (xs : List A) → Lists P xs → Lists Q xs
listed_as P Q to back xs h = record {
  each_once = h.each_once;
  sound = λ k d l. to (get_or xs k d) (h.sound k d l);
  complete = λ x q. h.complete x (back x q);
}

-- the store of the keys and the store that was listed have the same keys
same_keys : (es : List (Segments × List ℕ)) (keys : List Segments) (S : Values) → HasOnly es keys → Lists (HasKey S) keys
    → (key : Segments) → HasKey (finite.from_entries {R = key_cmp} es) key ↔ HasKey S key
same_keys es keys S only all key = (
  λ h.
      let c : Contains keys key = (only key).0 h in
      subst (HasKey S) c.2 (all.sound c.0 key c.1),
  λ h. (only key).1 (all.complete key h),
)

module _ (es : List (Segments × List ℕ)) (keys : List Segments) (only : HasOnly es keys) (p : Segments) (S : Values) (all : Lists (HasKey S) keys) where
  abbrev made : Values
  made = finite.from_entries es

  -- the keys directly below a prefix
  pub dir_keys : (found : List Segments) → Lists (IsChildKey made p) found → Lists (IsChildKey S p) found
  dir_keys found =
      listed_as (IsChildKey made p) (IsChildKey S p)
      (child_key made S (same_keys es keys S only all) p)
      (child_key S made (λ key. ((same_keys es keys S only all key).1, (same_keys es keys S only all key).0)) p) found

  -- the child prefixes
  pub dir_prefixes : (found : List Segments) → Lists (IsChildPrefix made p) found → Lists (IsChildPrefix S p) found
  dir_prefixes found =
      listed_as (IsChildPrefix made p) (IsChildPrefix S p)
      (child_prefix made S (same_keys es keys S only all) p)
      (child_prefix S made (λ key. ((same_keys es keys S only all key).1, (same_keys es keys S only all key).0)) p) found

-- ---- a store of the keys

-- a store without entries has no key
pub only_none : (es : List (Segments × List ℕ)) → es ≡ [] → HasOnly es []
only_none es e = subst (λ es. HasOnly es []) (sym e) none
  where
    none : HasOnly [] []
    none key = (
      λ h.
          let e : false ≡ true = sym (ap is_some (finite.get-from_entries key_cmp_total [] key)) ∙ h in
          cc,
      λ c. absurd (omega (arith, c.1)),
    )

module _ (old new : List (Segments × List ℕ)) (keys : List Segments) (k : Segments) (v : List ℕ)
    (is : finite.from_entries {R = key_cmp} new ≡ finite.insert (finite.from_entries {R = key_cmp} old) k v) (only : HasOnly old keys) where
  -- what the new store has at a key
  seen : (q : Segments) → finite.get (finite.from_entries {R = key_cmp} new) q ≡ cond (eq_by_cmp key_cmp q k) (Some v) (finite.get (finite.from_entries {R = key_cmp} old) q)
  seen q = ap (λ (m : Values). finite.get m q) is ∙ finite.get-insert key_cmp_total (finite.from_entries old) k v q

  -- it has the new key and the old ones
  has : (q : Segments) → HasKey (finite.from_entries {R = key_cmp} new) q → Contains (keys ++ k ∷ []) q
  has q h = by (eq_by_cmp key_cmp q k) refl (sym (ap is_some (seen q)) ∙ h)
    where
      by : (b : Bool) → eq_by_cmp key_cmp q k ≡ b → is_some (cond b (Some v) (finite.get (finite.from_entries {R = key_cmp} old) q)) ≡ true → Contains (keys ++ k ∷ []) q
      by true e f = subst (Contains (keys ++ k ∷ [])) (sym (key_cmp-IsAntisymmetric q k (equal_of _ e))) (Contains-push keys k)
      by false e f = Contains-append_left keys (k ∷ []) q ((only q).0 f)

  -- and no other
  has_each : (q : Segments) → Contains (keys ++ k ∷ []) q → HasKey (finite.from_entries {R = key_cmp} new) q
  has_each q c = ap is_some (seen q) ∙ by (eq_by_cmp key_cmp q k) refl (Contains-push_cases keys k q c)
    where
      by : (b : Bool) → eq_by_cmp key_cmp q k ≡ b → Contains keys q ⊎ (k ≡ q) → is_some (cond b (Some v) (finite.get (finite.from_entries {R = key_cmp} old) q)) ≡ true
      by true e h = refl
      by false e (inl listed) = (only q).1 listed
      by false e (inr same) =
          let both : eq_by_cmp key_cmp q k ≡ true = subst (λ x. eq_by_cmp key_cmp x k ≡ true) same (tied k) in
          cc

  -- with one key more
  pub only_pushed : HasOnly new (keys ++ k ∷ [])
  only_pushed q = (has q, has_each q)
