-- Zarr core specification 3.1, "Hierarchy": trees of nodes side by side, as a list of nodes holds them.
-- <https://zarr-specs.readthedocs.io/en/latest/v3/core/index.html#hierarchy>
use Rattle.std.specs.Prelude.{◌≡◌, ℕ, List, [], ◌∷◌, ◌++◌, map}
use Rattle.std.specs.declared.cmp.Ordering.TheVariants.{Less}
use Rattle.zarrs_store.specs.Contents.{Lists}
use Rattle.zarrs_path.specs.Paths.{Path, path_cmp}
use Rattle.zarrs_meta.specs.declared.node.NodeMetadata.{NodeMetadata}
use Rattle.zarrs_meta.specs.declared.node.NodeMetadata.TheVariants.{Group, Array}
use Rattle.zarrs_node.specs.declared.node.Node.{Node}
use Rattle.zarrs_node.specs.declared.node.Node.TheOpen.{Node-F}
use Rattle.zarrs_node.specs.declared.node.Node.TheFolds.{fold-Node}
use Rattle.zarrs_node.specs.declared.node.Node.TheViews.{out-Node}
use Rattle.zarrs_meaning.specs.Meaning.{Pair}

-- a forest is none, or a first tree, by its path, its metadata and the forest below it, and the trees after it
pub data Forest : Type 0 where
  none : Forest
  tree : Path → NodeMetadata → Forest → Forest → Forest

-- the paths with their metadata, parents before children
abbrev pub pairs : Forest → List Pair
pairs none = []
pairs (tree p m below after) = (p, m) ∷ (pairs below ++ pairs after)

-- p stands before the first root
abbrev pub IsBefore : Path → Forest → Type 0
IsBefore p none = Unit {0}
IsBefore p (tree q m below after) = path_cmp p q ≡ Less

-- arrays have no children
abbrev pub MayHold : NodeMetadata → Forest → Type 0
MayHold (Group g) f = Unit {0}
MayHold (Array a) f = f ≡ none

-- p is b and one name
abbrev pub IsChildOf : Path → Path → Type 0
IsChildOf b p = (n : List ℕ) × (p ≡ b ++ n ∷ [])

-- each root is b and one name, and each child its parent and one name
abbrev pub ArePlacedBelow : Path → Forest → Type 0
ArePlacedBelow b none = Unit {0}
ArePlacedBelow b (tree p m below after) = IsChildOf b p × ArePlacedBelow p below × ArePlacedBelow b after

-- each root is b and one name, each child its parent and one name, siblings strictly ascend, arrays have no children
abbrev pub IsPlaced : Path → Forest → Type 0
IsPlaced b none = Unit {0}
IsPlaced b (tree p m below after) =
    ((n : List ℕ) × (p ≡ b ++ n ∷ [])) × MayHold m below × IsPlaced p below × IsBefore p after × IsPlaced b after

-- f shows N below b: its pairs are those of N, each once, and it is placed below b
pub record Shows (f : Forest) (b : Path) (N : Pair → Type 0) : Type 0 where
  pub shown : Lists N (pairs f)
  pub placed : IsPlaced b f

-- the forest of some trees, each a function that puts it in front of the trees after it
abbrev pub plant_all : List (Forest → Forest) → Forest
plant_all [] = none
plant_all (t ∷ ts) = t (plant_all ts)

-- the tree of a node, by those of its children, in front of the trees after it
abbrev pub plant_step : Node-F (Forest → Forest) → Forest → Forest
plant_step x after = tree x.path x.metadata (plant_all x.children.items) after

-- a node's tree in front of the trees after it
abbrev pub plant : Node → Forest → Forest
plant = fold-Node (Forest → Forest) plant_step

-- the forest of a list of nodes
abbrev pub forest : List Node → Forest
forest ns = plant_all (map plant ns)

-- the path of a node
abbrev pub path_of : Node → Path
path_of n = (out-Node n).path

-- the metadata of a node
abbrev pub metadata_of : Node → NodeMetadata
metadata_of n = (out-Node n).metadata

-- the forest below a node
abbrev pub below_of : Node → Forest
below_of n = forest (out-Node n).children.items

-- throughout a node's tree the path of each child is its parent's and one name
abbrev pub HasPlacedChildren : Node → Type 0
HasPlacedChildren n = ArePlacedBelow (path_of n) (below_of n)
