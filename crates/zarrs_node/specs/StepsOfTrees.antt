-- Zarr core specification 3.1, "Hierarchy": a pass over pairs in the order of paths, with the trees that are done and
-- the groups that are open, each a child of the one before it.
use Rattle.std.specs.Prelude.{◌≡◌, List, [], ◌∷◌, ◌++◌, map, Contains, cond, ◌⊎◌, Bool, false, Option, Some, None}
use Rattle.zarrs_path.specs.Paths.{Path, IsPath, IsBelow}
use Rattle.zarrs_meta.specs.Node.{is_group}
use Rattle.zarrs_meta.specs.declared.node.NodeMetadata.{NodeMetadata}
use Rattle.zarrs_node.specs.declared.node.Node.{Node}
use Rattle.zarrs_node.specs.declared.node.Node.TheViews.{out-Node}
use Rattle.zarrs_node.specs.Forest.{Forest, none, tree, forest, IsChildOf}
use Rattle.zarrs_meaning.specs.Meaning.{Pair}

-- the trees of f, and then those of g
abbrev pub graft : Forest → Forest → Forest
graft none g = g
graft (tree p m below after) g = tree p m below (graft after g)

-- the paths passed over with a child: the child itself, or those below it
abbrev pub paths_passed : Path → Option NodeMetadata → List Path → List Path
paths_passed p None below = p ∷ []
paths_passed p (Some m) below = below

-- the nodes told of a child by itself: its own, where it is a node
abbrev pub own_node : Path → Option NodeMetadata → List Pair
own_node p None = []
own_node p (Some m) = (p, m) ∷ []

-- what was found is a group
abbrev pub is_group_found : Option NodeMetadata → Bool
is_group_found None = false
is_group_found (Some m) = is_group m

-- an open group, with the trees that it has so far
pub record Stem : Type 0 where
  pub path : Path
  pub metadata : NodeMetadata
  pub below : Forest

-- the roots, and behind them the open groups, each the last child of the one before it, with t behind the children of
-- the last
abbrev pub grow : Forest → List Stem → Forest → Forest
grow roots [] t = graft roots t
grow roots (s ∷ ss) t = graft roots (tree s.path s.metadata (grow s.below ss t) none)

-- a node as an open group
abbrev pub stem_of : Node → Stem
stem_of n = record {
  path = (out-Node n).path;
  metadata = (out-Node n).metadata;
  below = forest (out-Node n).children.items;
}

-- the forest of the roots and the open groups
abbrev pub whole : List Node → List Node → Forest
whole roots opened = grow (forest roots) (map stem_of opened) none

-- the forest of the roots and the open groups, with t behind the children of the last open group
abbrev pub with_tree : List Node → List Node → Forest → Forest
with_tree roots opened t = grow (forest roots) (map stem_of opened) t

-- the open groups by path and metadata
abbrev pub heads : List Node → List Pair
heads opened = map (λ n. ((out-Node n).path, (out-Node n).metadata)) opened

-- the path of the last open group, and b where there is none
abbrev pub top : Path → List Pair → Path
top b [] = b
top b (h ∷ hs) = top h.0 hs

-- after closing the open groups hs from the last on that p is not below, `after` are left
pub record IsClosedTo (p : Path) (hs after : List Pair) : Type 0 where
  pub dropped : List Pair
  pub parts : hs ≡ after ++ dropped
  pub passed : (h : Pair) → Contains dropped h → IsBelow h.0 p → ⊥
  pub covers : (b : Path) → IsBelow b p → IsBelow (top b after) p

-- what an opened group adds to the heads
abbrev pub opened_by : Pair → List Pair
opened_by e = cond (is_group e.1) (e ∷ []) []

-- a child of the last open group is put there, and a group is opened; anything else changes nothing
abbrev pub IsTaken : Path → Pair → List Node → List Node → List Node → List Node → Type 0
IsTaken b e roots opened new_roots new_opened =
    ((IsChildOf (top b (heads opened)) e.0 × IsPath e.0)
    × (whole new_roots new_opened ≡ with_tree roots opened (tree e.0 e.1 none none))
    × (heads new_opened ≡ heads opened ++ opened_by e))
    ⊎ ((IsChildOf (top b (heads opened)) e.0 → ⊥) × (whole new_roots new_opened ≡ whole roots opened)
    × (heads new_opened ≡ heads opened))

-- the last pair is gone where it has the path
abbrev pub DropsEqual : Path → List Pair → List Pair → Type 0
DropsEqual p xs ys =
    ((e : Pair) × (xs ≡ ys ++ e ∷ []) × (e.0 ≡ p))
    ⊎ ((xs ≡ ys) × ((front : List Pair) (e : Pair) → xs ≡ front ++ e ∷ [] → e.0 ≡ p → ⊥))
