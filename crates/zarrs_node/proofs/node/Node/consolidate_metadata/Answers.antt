use Rattle.std.proofs.Common.{sym, subst}
use Rattle.zarrs_node.specs.Forest.{below_of, path_of, pairs}
use Rattle.zarrs_node.specs.StepsOfBlocks.{ArePairsBelow}
use Rattle.zarrs_node.proofs.blocks.NodesInBlocks.{placed_below, whole_block, whole_ascends}
use Rattle.zarrs_node.proofs.blocks.LatestPairs.{exact_block}
use Rattle.zarrs_node.proofs.node.Node.consolidate_metadata.Goals as goal

pub insert_all-requires : goal.insert_all-requires
insert_all-requires c =
    let n = c.args.self.now in
    let all = placed_below (path_of n) (below_of n) c.requires.placed in
    record { below = subst (λ f. ArePairsBelow c.path.result.now (pairs f)) (sym c.children.ensures) (subst (λ p. ArePairsBelow p (pairs (below_of n))) (sym c.path.ensures) all) }

pub returns-clause-latest : goal.returns-clause-latest
returns-clause-latest c =
    let n = c.args.self.now in
    whole_block (path_of n) _ _ (below_of n) _ _ c.path.ensures c.children.ensures c.new-block.ensures c.in_ok-insert_all.ensures.inserted c.requires.placed c.in_ok-insert_all.ensures.valid

pub returns-clause-exact : goal.returns-clause-exact
returns-clause-exact c placed =
    let n = c.args.self.now in
    exact_block (path_of n) (below_of n) c.insert_all.new.block placed
    (whole_block (path_of n) _ _ (below_of n) _ _ c.path.ensures c.children.ensures c.new-block.ensures c.in_ok-insert_all.ensures.inserted c.requires.placed c.in_ok-insert_all.ensures.valid)

pub returns-clause-ascending : goal.returns-clause-ascending
returns-clause-ascending c =
    let n = c.args.self.now in
    whole_ascends (path_of n) _ _ (below_of n) _ _ c.path.ensures c.children.ensures c.new-block.ensures c.in_ok-insert_all.ensures.inserted
