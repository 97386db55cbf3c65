-- Zarr core specification 3.1, "Hierarchy": pairs of path and metadata in a list, where a path may stand more than
-- once.
-- <https://zarr-specs.readthedocs.io/en/latest/v3/core/index.html#hierarchy>
--     IsLatest xs e      of the pairs with its path, e is the last
--     CountsSteps xs f steps      what building the forest f from the pairs takes
--     row es      pairs as nodes without children
--     StandBelow b xs es, AreChildrenOf b xs es      the pairs directly below b; those in the order of paths
use Rattle.std.specs.Prelude.{◌≡◌, ◌≢◌, ℕ, ◌+◌, List, [], ◌∷◌, ◌++◌, AllPairs, Contains, length}
use Rattle.std.specs.List.{filter, count_by}
use Rattle.std.specs.declared.cmp.Ordering.TheVariants.{Greater}
use Rattle.zarrs_store.specs.Contents.{Lists}
use Rattle.zarrs_path.specs.Paths.{Path, IsPath, path_eq, path_cmp}
use Rattle.zarrs_meta.specs.Node.{is_group}
use Rattle.zarrs_meta.specs.declared.node.NodeMetadata.{NodeMetadata}
use Rattle.zarrs_node.specs.Forest.{Forest, none, tree, pairs, IsChildOf}
use Rattle.zarrs_meaning.specs.Meaning.{Pair}

-- of the pairs of xs that have its path, e is the last
abbrev pub IsLatest : List Pair → Pair → Type 0
IsLatest xs e = (front : List Pair) × (filter (λ d. path_eq d.0 e.0) xs ≡ front ++ e ∷ [])

-- the number of groups of a forest
abbrev pub groups : Forest → ℕ
groups f = count_by (λ e. is_group e.1) (pairs f)

-- one step for each different path of the pairs, and one for each group of the forest
abbrev pub CountsSteps : List Pair → Forest → ℕ → Type 0
CountsSteps xs f steps =
    (paths : List Path) × Lists (λ p. (m : NodeMetadata) × Contains xs (p, m)) paths × (steps ≡ length paths + groups f)

-- the pairs as nodes side by side, without children
abbrev pub row : List Pair → Forest
row [] = none
row (e ∷ es) = tree e.0 e.1 none (row es)

-- es are the pairs of xs whose path is b and one name, as often as they stand; those of one path as they stood
pub record StandBelow (b : Path) (xs es : List Pair) : Type 0 where
  pub children : (e : Pair) → Contains es e → IsPath e.0 × IsChildOf b e.0
  pub as_often : (p : Path) → IsChildOf b p → filter (λ d. path_eq d.0 p) es ≡ filter (λ d. path_eq d.0 p) xs

-- es are the pairs of xs whose path is b and one name, as often as they stand, and no path stands after a later one
pub record AreChildrenOf (b : Path) (xs es : List Pair) : Type 0 where
  pub stand : StandBelow b xs es
  pub ascending : AllPairs (λ d e. path_cmp d.0 e.0 ≢ Greater) es
