use Rattle.std.proofs.Common.{subst, sym, rules}
use Rattle.zarrs_store.specs.Contents.{Lists}
use Rattle.zarrs_block.specs.Block.{Entries}
use Rattle.zarrs_block.specs.BlockExpansion.{HaveOwnPaths}
use Rattle.zarrs_block.proofs.Expansion.{entries_listed, own_paths}
use Rattle.zarrs_block.proofs.InOrder.{sorted_by_path, own_moved, lists_moved, sorted_ascend}
use Rattle.zarrs_block.proofs.expand.expand_consolidated_metadata.Goals as goal

pub returns-then-ascend-clause-entries : goal.returns-then-ascend-clause-entries
returns-then-ascend-clause-entries c =
    let b = c.args.path.now in
    let B = c.args.block.metadata in
    subst (Lists (Entries B b)) (sym c.in_ok-pairs.ensures.pairs) (entries_listed b B c.in_ok-pairs.ensures.ordered c.in_ok-pairs.ensures.keys)

pub returns-then-ascend-clause-once : goal.returns-then-ascend-clause-once
returns-then-ascend-clause-once c =
    let b = c.args.path.now in
    let B = c.args.block.metadata in
    subst HaveOwnPaths (sym c.in_ok-pairs.ensures.pairs) (own_paths b B c.in_ok-pairs.ensures.ordered c.in_ok-pairs.ensures.keys)

pub returns-clause-entries : goal.returns-clause-entries
returns-clause-entries c =
    let b = c.args.path.now in
    let B = c.args.block.metadata in
    let paired_up = sym c.in_ok-pairs.ensures.pairs in
    lists_moved (Entries B b) _ _ c.sort_by.ensures.permutation
    (subst HaveOwnPaths paired_up (own_paths b B c.in_ok-pairs.ensures.ordered c.in_ok-pairs.ensures.keys))
    (subst (Lists (Entries B b)) paired_up (entries_listed b B c.in_ok-pairs.ensures.ordered c.in_ok-pairs.ensures.keys))

pub returns-clause-once : goal.returns-clause-once
returns-clause-once c =
    let b = c.args.path.now in
    let B = c.args.block.metadata in
    let paired_up = sym c.in_ok-pairs.ensures.pairs in
    own_moved _ _ c.sort_by.ensures.permutation (subst HaveOwnPaths paired_up (own_paths b B c.in_ok-pairs.ensures.ordered c.in_ok-pairs.ensures.keys))

pub returns-clause-ascending : goal.returns-clause-ascending
returns-clause-ascending c =
    let b = c.args.path.now in
    let B = c.args.block.metadata in
    let paired_up = sym c.in_ok-pairs.ensures.pairs in
    sorted_ascend _ (sorted_by_path (λ f a r q k. search rules) _ c.in_ok-sort_by.ensures.sorted)
    (own_moved _ _ c.sort_by.ensures.permutation (subst HaveOwnPaths paired_up (own_paths b B c.in_ok-pairs.ensures.ordered c.in_ok-pairs.ensures.keys)))
