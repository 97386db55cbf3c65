-- What is written of a block of plain nodes reads as that block.
use Rattle.std.proofs.Common.{◌≡◌, ℕ, List, [], ◌∷◌, false, Some, Ok, IsTrue, refl}
use Rattle.std.proofs.lemmas.List.Elements.{All-head, All-tail}
use Rattle.serde_json.specs.Written.{members_have_float}
use Rattle.zarrs_fault.specs.declared.numbers.Numbers.{Numbers}
use Rattle.zarrs_fault.specs.declared.numbers.Numbers.TheVariants.{Whole, Any}
use Rattle.zarrs_form.specs.Forms.{fits_in}
use Rattle.zarrs_meta.specs.Node.{is_plain_node_in}
use Rattle.zarrs_meta.specs.declared.node.NodeMetadata.{NodeMetadata}
use Rattle.zarrs_meta.proofs.NodeLaws.{node_no_float, node_again_in}
use Rattle.zarrs_block.specs.Block.{Block, HasPlainNodesIn, nodes_in, documents, block_of_in, block_tree}
use Rattle.zarrs_block.proofs.NumbersWithin.{asked_document}

-- the node of an entry could have come from a document that may hold these numbers
abbrev IsPlainIn : Numbers → List ℕ × NodeMetadata → Type 0
IsPlainIn numbers e = IsTrue (is_plain_node_in numbers e.1)

-- documents of nodes that are plain in whole numbers have no fraction
documents_fit : (B : Block) → HasPlainNodesIn Whole B → members_have_float (documents B) ≡ false
documents_fit [] plain = refl
documents_fit (e ∷ B) plain =
    rw (node_no_float e.1 (All-head (IsPlainIn Whole) e B plain), documents_fit B (All-tail (IsPlainIn Whole) e B plain)) refl

-- the numbers of a block of nodes that are plain in these numbers are among them
tree_fits : (numbers : Numbers) (B : Block) → HasPlainNodesIn numbers B → IsTrue (fits_in numbers (block_tree B))
tree_fits Whole B plain = rw (documents_fit B plain) refl
tree_fits Any B plain = refl

-- documents of nodes that are plain in these numbers read in them as these nodes
nodes_again : (numbers : Numbers) (B : Block) → HasPlainNodesIn numbers B → nodes_in numbers (documents B) ≡ Some B
nodes_again numbers [] plain = refl
nodes_again numbers (e ∷ B) plain =
    rw (node_again_in numbers e.1 (All-head (IsPlainIn numbers) e B plain), nodes_again numbers B (All-tail (IsPlainIn numbers) e B plain)) refl

-- a block of nodes that are plain in these numbers, which was written, reads in them as that block
pub block_again_in : (numbers : Numbers) (B : Block) → HasPlainNodesIn numbers B → block_of_in numbers (block_tree B) ≡ Ok B
unfolding block_of_in
block_again_in numbers B plain = rw (asked_document numbers (block_tree B) (tree_fits numbers B plain), nodes_again numbers B plain) refl

-- so it is where numbers have to be whole
pub block_again : (B : Block) → HasPlainNodesIn Whole B → block_of_in Whole (block_tree B) ≡ Ok B
block_again B plain = block_again_in Whole B plain
