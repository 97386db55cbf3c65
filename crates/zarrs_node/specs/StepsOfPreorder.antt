-- Zarr core specification 3.1, "Hierarchy": a walk over a forest, parents before children, as a loop goes through it.
--     Stop, stops l f      a node that the walk comes to; the nodes of a forest at a level, as it comes to them
--     ahead held      what is ahead of a walk that holds the siblings which are left, a list for each level
use Rattle.std.specs.Prelude.{ℕ, ◌+◌, List, [], ◌∷◌, ◌++◌, map}
use Rattle.std.specs.Borrow.{Bor}
use Rattle.zarrs_path.specs.Paths.{Path}
use Rattle.zarrs_meta.specs.declared.node.NodeMetadata.{NodeMetadata}
use Rattle.zarrs_node.specs.declared.node.Node.{Node}
use Rattle.zarrs_node.specs.Forest.{Forest, none, tree, forest, path_of, metadata_of, below_of}

-- a node that a walk comes to: how deep it stands, its path, its metadata and the forest below it
pub record Stop : Type 0 where
  pub level : ℕ
  pub path : Path
  pub metadata : NodeMetadata
  pub below : Forest

-- the nodes of a forest at a level, parents before children
abbrev pub stops : ℕ → Forest → List Stop
stops l none = []
stops l (tree p m below after) =
    record { level = l; path = p; metadata = m; below = below } ∷ (stops (l + 1) below ++ stops l after)

-- a node at a level
abbrev pub stop_of : ℕ → Node → Stop
stop_of l n = record { level = l; path = path_of n; metadata = metadata_of n; below = below_of n }

-- what is ahead of a walk: below each node that is open, those of its children that are left, the deepest first
abbrev pub ahead_at : ℕ → List (List Node) → List Stop
ahead_at l [] = []
ahead_at l (ns ∷ deeper) = ahead_at (l + 1) deeper ++ stops l (forest ns)

-- what is ahead of a walk that holds such lists by reference
abbrev pub ahead : List (Bor (List Node)) → List Stop
ahead held = ahead_at 1 (map (λ s. s.now) held)
