-- Zarr core specification 3.1, "Abstract store interface": a store as a finite map from keys to bytes, and what its
-- calls say of it.
-- <https://zarr-specs.readthedocs.io/en/latest/v3/core/index.html#abstract-store-interface>
--     Values, Contents      what a store holds; that, and which numbers its documents may hold
--     with_key, without_key, of_entries      the store with bytes at a key, and without a key; the store of a list of
-- entries
--     HasKey S key, Lists P xs      the store has the key; xs has exactly the items of which P holds, each once
--     IsKeyBelow, HasBelow      keys with segments behind a prefix; that there is one
--     IsChildKey, HasChild, IsChildPrefix      what stands directly below a prefix
--     AgreesExceptAt key old new      only that key may differ
use Rattle.std.specs.Prelude.{◌≡◌, ◌≢◌, ℕ, List, [], ◌∷◌, ◌++◌, IsTrue, Contains, All, AllPairs}
use Rattle.std.specs.FinMap as map
use Rattle.zarrs_fault.specs.declared.numbers.Numbers.{Numbers}
use Rattle.zarrs_fault.specs.declared.numbers.Numbers.TheVariants.{Whole}
use Rattle.zarrs_store.specs.Segments.{Segments, key_cmp}

-- what a store holds: bytes at some keys
abbrev pub Values : Type 0
Values = map.FinMap key_cmp (List ℕ)

-- a store as readers see it: what it holds, and which numbers its documents may hold
pub record Contents : Type 0 where
  pub values : Values
  pub numbers : Numbers

-- the store with these bytes at a key, and the numbers as they were
abbrev pub with_key : Contents → Segments → List ℕ → Contents
with_key S key bytes = record { values = map.insert S.values key bytes; numbers = S.numbers }

-- the store without a key, and the numbers as they were
abbrev pub without_key : Contents → Segments → Contents
without_key S key = record { values = map.remove S.values key; numbers = S.numbers }

-- the store of a list of entries, whose documents hold whole numbers only
abbrev pub of_entries : List (Segments × List ℕ) → Contents
of_entries es = record { values = map.from_entries es; numbers = Whole }

-- the store has the key, whatever stands there
abbrev pub HasKey : {V : Type 0} → map.FinMap key_cmp V → Segments → Type 0
HasKey S key = IsTrue (map.contains_key S key)

-- the list xs has exactly the items of which P holds, each once, in any order
pub record Lists {A : Type 0} (P : A → Type 0) (xs : List A) : Type 0 where
  pub each_once : AllPairs (λ x y. x ≢ y) xs
  pub sound : All P xs
  pub complete : (x : A) → P x → Contains xs x

-- a key of the store that is the prefix and at least one segment more
pub record IsKeyBelow (S : Values) (prefix key : Segments) : Type 0 where
  pub first : List ℕ
  pub rest : Segments
  pub is : key ≡ prefix ++ first ∷ rest
  pub held : HasKey S key

-- a key of the store that is the prefix and exactly one segment more
pub record IsChildKey (S : Values) (prefix key : Segments) : Type 0 where
  pub name : List ℕ
  pub is : key ≡ prefix ++ name ∷ []
  pub held : HasKey S key

-- some key of the store has this segment behind the prefix, and at least one more behind that
pub record HasChild (S : Values) (prefix : Segments) (name : List ℕ) : Type 0 where
  pub next : List ℕ
  pub rest : Segments
  pub held : HasKey S (prefix ++ name ∷ next ∷ rest)

-- the prefix and one segment more, which some key of the store has there with at least one more behind it
pub record IsChildPrefix (S : Values) (prefix child : Segments) : Type 0 where
  pub name : List ℕ
  pub is : child ≡ prefix ++ name ∷ []
  pub has : HasChild S prefix name

-- every key but this one has what it had
abbrev pub AgreesExceptAt : Segments → Values → Values → Type 0
AgreesExceptAt key old new = (other : Segments) → other ≢ key → map.get new other ≡ map.get old other

-- some key of the store is p and one or more further segments, whatever stands there
abbrev pub HasBelow : {V : Type 0} → map.FinMap key_cmp V → Segments → Type 0
HasBelow S p = (first : List ℕ) × (rest : Segments) × HasKey S (p ++ first ∷ rest)
