-- Zarr core specification 3.1, section "Hierarchy": what holds of every hierarchy that is listed.
-- <https://zarr-specs.readthedocs.io/en/latest/v3/core/index.html#hierarchy>
use Rattle.std.specs.Prelude.{◌≡◌, Bool, true, List, Contains, ◌↔◌, ℕ}
use Rattle.zarrs_path.specs.Paths.{Path, IsPath, IsBelow}
use Rattle.zarrs_node.specs.Forest.{Forest, pairs, IsPlaced, ArePlacedBelow, Shows}
use Rattle.zarrs_node.specs.Lines.{IsLines, preorder}
use Rattle.zarrs_meaning.specs.Meaning.{Meaning}
use Rattle.zarrs_node.specs.Nodes.{Means}
use Rattle.zarrs_node.specs.Reach.{Kept, Closed}
use Rattle.zarrs_node.specs.Order.{Ascend}
use Rattle.zarrs_meaning.specs.Meaning.{Pair}

-- Two placed forests with the same pairs are one.
abbrev pub OneForest : Type 0
OneForest =
    (b : Path) (f g : Forest) → IsPlaced b f → IsPlaced b g → ((e : Pair) → Contains (pairs f) e ↔ Contains (pairs g) e)
    → f ≡ g

-- Two forests that show the nodes of one meaning below one base are one.
abbrev pub OneListing : Type 0
OneListing = (of : Path → Meaning) (recursive : Bool) (b : Path) (f g : Forest)
    → Shows f b (Kept (Means of) recursive b) → Shows g b (Kept (Means of) recursive b) → f ≡ g

-- The pairs of a placed forest stand in the order of paths.
abbrev pub PairsAscend : Type 0
PairsAscend = (b : Path) (f : Forest) → IsPlaced b f → Ascend (pairs f)

-- In a placed forest the path of each child is its parent's and one name.
abbrev pub PlacedChildren : Type 0
PlacedChildren = (b : Path) (f : Forest) → IsPlaced b f → ArePlacedBelow b f

-- The preorder of a placed forest is the lines of its pairs in the order of paths.
abbrev pub PreorderIsLines : Type 0
PreorderIsLines = (b : Path) (f : Forest) → IsPlaced b f → IsLines b (Contains (pairs f)) (preorder 1 f)

-- The preorder of a forest that shows the nodes of a meaning is their lines in the order of paths.
abbrev pub ListingIsLines : Type 0
ListingIsLines = (of : Path → Meaning) (recursive : Bool) (b : Path) (f : Forest)
    → Shows f b (Kept (Means of) recursive b) → IsLines b (Kept (Means of) recursive b) (preorder 1 f)

-- Two lists with the same pairs below a base have one text of lines there.
abbrev pub OneText : Type 0
OneText = (b : Path) (es ds : List Pair) (t u : List ℕ) → ((e : Pair) → IsBelow b e.0 → Contains es e ↔ Contains ds e)
    → IsLines b (Contains es) t → IsLines b (Contains ds) u → t ≡ u

-- The pairs of a placed forest of paths are closed.
abbrev pub ClosedPairs : Type 0
ClosedPairs =
    (b : Path) (f : Forest) → IsPlaced b f → ((e : Pair) → Contains (pairs f) e → IsPath e.0)
    → Closed (Contains (pairs f)) b

-- The nodes of a meaning are closed.
abbrev pub ClosedNodes : Type 0
ClosedNodes = (of : Path → Meaning) (b : Path) → Closed (Kept (Means of) true b) b
