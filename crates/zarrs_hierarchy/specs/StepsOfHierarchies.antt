-- Steps of hierarchies: where a path stands among ascending pairs, and what a private walk takes; no public contract
-- rests on them.
use Rattle.std.specs.Prelude.{◌≡◌, ℕ, ◌<◌, ◌≤◌, length, List, Contains}
use Rattle.std.specs.declared.cmp.Ordering.TheVariants.{Less, Greater}
use Rattle.std.specs.List.{AllWithin, HoldsAt, filter}
use Rattle.zarrs_path.specs.Paths.{Path, path_cmp}
use Rattle.zarrs_hierarchy.specs.PairsOfHierarchies.{Pairs}
use Rattle.zarrs_store.specs.Contents.{Lists}
use Rattle.zarrs_node.specs.Order.{Ascend}
use Rattle.zarrs_node.specs.Sinks.{TakesAll}
use Rattle.std.specs.Ordering.{is_lt}
use Rattle.zarrs_meaning.specs.Meaning.{Pair}

-- the path stands at place i
pub record IsPathAt (h : Pairs) (p : Path) (i : ℕ) : Type 0 where
  pub inside : i < length h
  pub is : HoldsAt (λ e. e.0 ≡ p) h i

-- the path would stand at place i: each path before it is smaller, and each from there on is greater
pub record IsPathGap (h : Pairs) (p : Path) (i : ℕ) : Type 0 where
  pub inside : i ≤ length h
  pub smaller : AllWithin (λ e. path_cmp e.0 p ≡ Less) h 0 i
  pub greater : AllWithin (λ e. path_cmp e.0 p ≡ Greater) h i (length h)

-- z came of a by taking the pairs of N, each once, in the order of paths
pub record TakesPairs {S : Type 0} (R : S → Pair → S → Type 0) (a z : S) (N : Pair → Type 0) : Type 0 where
  pub nodes : List Pair
  pub lists : Lists N nodes
  pub ordered : Ascend nodes
  pub took : TakesAll R a nodes z

-- the pairs behind b in the order of paths, as they stand
abbrev pub pairs_behind : Path → Pairs → Pairs
pairs_behind b h = filter (λ e. is_lt (path_cmp b e.0)) h

-- each of the pairs stands behind b in the order of paths
abbrev pub IsBehind : Path → Pairs → Type 0
IsBehind b h = (e : Pair) → Contains h e → path_cmp b e.0 ≡ Less
