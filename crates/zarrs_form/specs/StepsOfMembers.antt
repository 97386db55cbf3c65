-- Steps of members that stand in the order of their names: where a name stands, and where it would stand; no public
-- contract rests on them.
use Rattle.std.specs.Prelude.{◌≡◌, ℕ, ◌<◌, ◌≤◌, Bool, List, length, String, string_bytes}
use Rattle.std.specs.Global.{Global}
use Rattle.std.specs.declared.cmp.Ordering.TheVariants.{Less, Greater}
use Rattle.std.specs.BTreeMap.{is_at}
use Rattle.std.specs.Cmp.Lexicographic.{slice_cmp}
use Rattle.std.specs.List.{AllWithin, HoldsAt}
use Rattle.std.specs.Ordering.{nat_cmp}

-- whether a text is the name
abbrev pub at_name : List ℕ → String Global → Bool
at_name name = is_at (λ k. slice_cmp nat_cmp name (string_bytes k))

-- the name stands at place i
pub record IsNameAt {X : Type 0} (es : List (String Global × X)) (name : List ℕ) (i : ℕ) : Type 0 where
  pub inside : i < length es
  pub is : HoldsAt (λ e. string_bytes e.0 ≡ name) es i

-- the name would stand at place i: each name before it is smaller, and each from there on is greater
pub record IsNameGap {X : Type 0} (es : List (String Global × X)) (name : List ℕ) (i : ℕ) : Type 0 where
  pub inside : i ≤ length es
  pub smaller : AllWithin (λ e. slice_cmp nat_cmp (string_bytes e.0) name ≡ Less) es 0 i
  pub greater : AllWithin (λ e. slice_cmp nat_cmp (string_bytes e.0) name ≡ Greater) es i (length es)
