-- Pairs put into a block one after another.
use Rattle.std.proofs.Common.{◌≡◌, List, [], ◌∷◌, ◌++◌, refl}
use Rattle.zarrs_path.specs.Paths.{Path}
use Rattle.zarrs_meta.specs.declared.node.NodeMetadata.{NodeMetadata}
use Rattle.zarrs_block.specs.Block.{Block, IsAscending, put}
use Rattle.zarrs_block.proofs.PutEntries.{put_ascends}
pub use Rattle.zarrs_block.proofs.PutEntries.{found_put, before_all, none_ascend}
use Rattle.zarrs_node.specs.BlocksOfNodes.{text_beyond}
use Rattle.zarrs_node.specs.StepsOfBlocks.{put_all}

module _ (b : Path) where
  -- pairs in a row are put one part after the other
  pub put_all-append : (B : Block) (es ds : List (Path × NodeMetadata)) → put_all b B (es ++ ds) ≡ put_all b (put_all b B es) ds
  put_all-append B [] ds = refl
  put_all-append B (e ∷ es) ds = put_all-append (put (text_beyond b e.0) e.1 B) es ds

  -- the keys still ascend
  pub put_all_ascends : (B : Block) (es : List (Path × NodeMetadata)) → IsAscending B → IsAscending (put_all b B es)
  put_all_ascends B [] up = up
  put_all_ascends B (e ∷ es) up = put_all_ascends (put (text_beyond b e.0) e.1 B) es (put_ascends (text_beyond b e.0) e.1 B up)
