use Rattle.std.proofs.Common.{rules}
use Rattle.zarrs_block.proofs.Runs.{runs_sorted, runs_stable, same_sorted}
use Rattle.zarrs_block.proofs.zmetadata.sorted.Goals as goal

pub returns-clause-same : goal.returns-clause-same
returns-clause-same c = same_sorted c.args.runs.items c.sort_by.new.self.items (runs_stable (λ f a r q k. search rules) _ _ c.in_ok-sort_by.ensures.stable)

pub returns-clause-sorted : goal.returns-clause-sorted
returns-clause-sorted c = runs_sorted (λ f a r q k. search rules) _ c.in_ok-sort_by.ensures.sorted
