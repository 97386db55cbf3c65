-- Zarr core specification 3.1, "Group metadata", with zarr-python's field `consolidated_metadata`: a forest and its
-- block are inverse.
-- <https://zarr-specs.readthedocs.io/en/latest/v3/core/index.html#group-metadata>
-- <https://zarr.readthedocs.io/en/stable/user-guide/consolidated_metadata/>
--     HasNames b es      each path is b and one or more names
--     ArePlain numbers es      the metadata of each pair could have come from a document that may hold these numbers
--     IsInverse numbers b f B      B reads back in these numbers, its entries are the pairs of f, they are closed, and
-- f is the one forest of the kept entries
use Rattle.std.specs.Prelude.{◌≡◌, ◌↔◌, ℕ, true, List, ◌∷◌, ◌++◌, Contains, IsTrue, Ok}
use Rattle.zarrs_path.specs.Paths.{Path, IsPath}
use Rattle.zarrs_fault.specs.declared.numbers.Numbers.{Numbers}
use Rattle.zarrs_meta.specs.Node.{is_plain_node_in}
use Rattle.zarrs_block.specs.Block.{Block, Entries, HasPlainNodesIn, HasValidKeys, IsAscending, IsBlockOf}
use Rattle.zarrs_block.specs.Block.{block_of_in, block_tree}
use Rattle.zarrs_node.specs.Forest.{Forest, pairs, IsPlaced, Shows}
use Rattle.zarrs_meaning.specs.Meaning.{Meaning}
use Rattle.zarrs_node.specs.Nodes.{Means}
use Rattle.zarrs_node.specs.Reach.{Kept, Closed}
use Rattle.zarrs_meaning.specs.Meaning.{Pair}

-- each path is b and one or more names
abbrev pub HasNames : Path → List Pair → Type 0
HasNames b es = (e : Pair) → Contains es e → (n : List ℕ) × (ns : Path) × (e.0 ≡ b ++ n ∷ ns) × IsPath (n ∷ ns)

-- the metadata of each pair could have come from a document that may hold these numbers
abbrev pub ArePlain : Numbers → List Pair → Type 0
ArePlain numbers es = (e : Pair) → Contains es e → IsTrue (is_plain_node_in numbers e.1)

-- the block has f in it: its metadata are plain in these numbers, what is written of it reads back in them, each of its
-- keys is valid, its entries are the pairs of f, these are closed, and f is the one forest that shows the kept entries
pub record IsInverse (numbers : Numbers) (b : Path) (f : Forest) (B : Block) : Type 0 where
  pub plain : HasPlainNodesIn numbers B
  pub read_back : block_of_in numbers (block_tree B) ≡ Ok B
  pub valid : HasValidKeys B
  pub entries : (e : Pair) → Entries B b e ↔ Contains (pairs f) e
  pub closed : Closed (Contains (pairs f)) b
  pub one_forest : (g : Forest) → Shows g b (Kept (Entries B b) true b) → g ≡ f

-- A block that holds exactly the pairs of a placed forest, each at its names beyond the base, has that forest in it,
-- where the metadata are plain: in whole numbers, or in any.
abbrev pub BlockGivesBack : Type 0
BlockGivesBack =
    (numbers : Numbers) (b : Path) (f : Forest) (B : Block)
    → IsPlaced b f → HasNames b (pairs f) → ArePlain numbers (pairs f) → IsAscending B
    → IsBlockOf (Contains (pairs f)) b B → IsInverse numbers b f B

-- A block that holds exactly the nodes that a listing finds, whatever the store, has in it the forest that shows
-- them, where the metadata are plain: in whole numbers, or in any.
abbrev pub ListingGivesBack : Type 0
ListingGivesBack =
    (numbers : Numbers) (of : Path → Meaning) (b : Path) (f : Forest) (B : Block)
    → Shows f b (Kept (Means of) true b) → ArePlain numbers (pairs f) → IsAscending B
    → IsBlockOf (Kept (Means of) true b) b B → IsInverse numbers b f B
