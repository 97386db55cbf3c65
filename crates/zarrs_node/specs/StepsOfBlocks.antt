-- Steps of the making of a block: pairs that are put into it one after another; no public contract rests on them.
use Rattle.std.specs.Prelude.{List, [], ◌∷◌, Contains}
use Rattle.zarrs_path.specs.Paths.{Path, IsPath, IsBelow}
use Rattle.zarrs_block.specs.Block.{Block, put}
use Rattle.zarrs_node.specs.BlocksOfNodes.{text_beyond}
use Rattle.zarrs_meaning.specs.Meaning.{Pair}

-- b is a proper beginning of the path of each pair
abbrev pub ArePairsBelow : Path → List Pair → Type 0
ArePairsBelow b es = (e : Pair) → Contains es e → IsBelow b e.0

-- the path of each pair has names only
abbrev pub ArePaths : List Pair → Type 0
ArePaths es = (e : Pair) → Contains es e → IsPath e.0

-- the block with the metadata of each pair put at the text of its names beyond b, one pair after another
abbrev pub put_all : Path → Block → List Pair → Block
put_all b B [] = B
put_all b B (e ∷ es) = put_all b (put (text_beyond b e.0) e.1 B) es
