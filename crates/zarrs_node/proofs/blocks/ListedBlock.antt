-- The block of the nodes that a listing finds.
use Rattle.std.proofs.Common.{◌≡◌, ◌≢◌, true, List, [], ◌∷◌, ◌++◌, sym, ap, subst, ◌∙◌, get_or, AllPairs}
use Rattle.zarrs_store.specs.Contents.{Lists}
use Rattle.zarrs_path.specs.Paths.{Path, path_cmp}
use Rattle.zarrs_block.specs.Block.{Block, IsAscending, IsBlockOf}
use Rattle.zarrs_node.specs.StepsOfBlocks.{ArePairsBelow, put_all}
use Rattle.zarrs_node.specs.Inverse.{HasNames}
use Rattle.zarrs_node.specs.Order.{Ascend}
use Rattle.zarrs_node.specs.Reach.{Kept}
use Rattle.zarrs_node.proofs.ListedItems.{listed_each}
use Rattle.zarrs_node.proofs.blocks.Latest.{latest_in, own_latest}
use Rattle.zarrs_node.proofs.blocks.PairsInBlocks.{put_all_ascends, none_ascend}
use Rattle.zarrs_node.proofs.blocks.LatestPairs.{latest_block}
use Rattle.zarrs_node.proofs.Unique.{Pair, lt_irrefl}

module _ (N : Pair → Type 0) (b : Path) (xs : List Pair) (listed : Lists (Kept N true b) xs) where
  -- listed nodes are below the base
  pub listed_below : ArePairsBelow b xs
  listed_below e in' = let low = ((listed_each listed e).0 in').0.below in (low.0, low.1, low.2)

  -- they have names beyond it
  names : HasNames b xs
  names e in' = ((listed_each listed e).0 in').0.below

  -- where they ascend, the block into which they are put is that of the nodes
  pub listed_block : (start B : Block) → Ascend xs → start ≡ [] → B ≡ put_all b start xs → IsBlockOf (Kept N true b) b B
  listed_block start B up empty all t m =
      let latest = latest_block b xs B names (all ∙ ap (λ x. put_all b x xs) empty) in (
        λ h. let w = (latest t m).0 h in (w.0, w.1, w.2, (listed_each listed (b ++ w.0 ∷ w.1, m)).0 (latest_in xs (b ++ w.0 ∷ w.1, m) w.3)),
        λ w. (latest t m).1 (w.0, w.1, w.2, own_latest xs apart (b ++ w.0 ∷ w.1, m) ((listed_each listed (b ++ w.0 ∷ w.1, m)).1 w.3)),
      )
    where
      -- their paths differ
      apart : AllPairs (λ d e. d.0 ≢ e.0) xs
      apart i j d l k same = lt_irrefl (get_or xs i d) (ap (path_cmp (get_or xs i d).0) same ∙ up i j d l k)

-- its keys ascend
pub listed_ascends : (b : Path) (xs : List Pair) (start B : Block) → start ≡ [] → B ≡ put_all b start xs → IsAscending B
listed_ascends b xs start B empty all = subst IsAscending (sym all) (put_all_ascends b start xs (subst IsAscending (sym empty) none_ascend))
