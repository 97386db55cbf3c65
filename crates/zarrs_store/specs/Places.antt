-- A store in memory: where keys stand among keys that ascend by the bytes of their texts, and how many comparisons
-- find that out.
-- <https://zarr-specs.readthedocs.io/en/latest/v3/core/index.html#abstract-store-interface>
--     text_cmp, AreAscending      the order of keys; that entries stand in it
--     IsKeyAt, IsKeyGap, IsRange      where a key stands, where it would stand, and where the keys below a prefix stand
--     keys_below      how many keys begin with a prefix
--     digits      the number of binary digits of a number
use Rattle.std.specs.Prelude.{◌≡◌, ℕ, zero, suc, ◌<◌, ◌≤◌, ◌/◌, true, false, List, length, All, filter, take, drop}
use Rattle.std.specs.Prelude.{slice_range, slice_index_or}
use Rattle.std.specs.declared.cmp.Ordering.{Ordering}
use Rattle.std.specs.declared.cmp.Ordering.TheVariants.{Less, Greater}
use Rattle.std.specs.Ordering.{on}
use Rattle.std.specs.List.Sorted.{IsStrictlySortedBy}
use Rattle.std.specs.Map.{keys_of}
use Rattle.zarrs_store.specs.Segments.{Segments, bytes_cmp, key_text, IsKey}
use Rattle.zarrs_store.specs.Entries.{is_below}

-- keys are ordered by the bytes of their texts
abbrev pub text_cmp : Segments → Segments → Ordering
text_cmp = on key_text bytes_cmp

-- the keys of these entries are keys, and ascend strictly by the bytes of their texts
pub record AreAscending {X : Type 0} (entries : List (Segments × X)) : Type 0 where
  pub valid : All (λ e. IsKey e.0) entries
  pub ascending : IsStrictlySortedBy text_cmp (keys_of entries)

-- the key stands at place i
pub record IsKeyAt (keys : List Segments) (key : Segments) (i : ℕ) : Type 0 where
  pub inside : i < length keys
  pub is : slice_index_or keys i key ≡ key

-- the key would stand at place i: each key before it is smaller, and each from there on is greater
pub record IsKeyGap (keys : List Segments) (key : Segments) (i : ℕ) : Type 0 where
  pub inside : i ≤ length keys
  pub smaller : All (λ k. text_cmp k key ≡ Less) (take i keys)
  pub greater : All (λ k. text_cmp k key ≡ Greater) (drop i keys)

-- the keys from place `first` to before place `end` are those that begin with the prefix: none before and none behind
-- does
pub record IsRange (keys : List Segments) (prefix : Segments) (first end : ℕ) : Type 0 where
  pub ordered : first ≤ end
  pub inside : end ≤ length keys
  pub before : All (λ k. is_below prefix k ≡ false) (take first keys)
  pub within : All (λ k. is_below prefix k ≡ true) (slice_range keys first end)
  pub behind : All (λ k. is_below prefix k ≡ false) (drop end keys)

-- how many of the keys begin with the prefix
abbrev pub keys_below : Segments → List Segments → ℕ
keys_below prefix keys = length (filter (is_below prefix) keys)

-- the number of binary digits of n, where that is at most `most`: of 0 it is 0, and of a greater n one more than of n
-- / 2
abbrev pub digits_up_to : ℕ → ℕ → ℕ
digits_up_to zero n = 0
digits_up_to (suc most) zero = 0
digits_up_to (suc most) (suc n) = suc (digits_up_to most (suc n / 2))

-- the number of binary digits of n, which has at most n of them
unfoldable pub digits : ℕ → ℕ
digits n = digits_up_to n n
