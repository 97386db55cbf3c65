use Rattle.std.proofs.Common.{rules}
use Rattle.std.proofs.lemmas.List.Sorted.{IsPartitionPoint-from_clause}
use Rattle.zarrs_hierarchy.specs.Tree.{is_path_below}
use Rattle.zarrs_hierarchy.proofs.Below.{one_run, run_taken}
use Rattle.zarrs_hierarchy.proofs.hierarchy.end_below.Goals as goal

pub returns-clause-below : goal.returns-clause-below
returns-clause-below c =
    let facts = c.partition_point.ensures in
    let b = c.args.path.now in
    run_taken (λ e. is_path_below b e.0) _ _ facts.bound
    (IsPartitionPoint-from_clause (λ e. is_path_below b e.0) _ _ facts.partitioned (one_run b _ c.requires.ascending c.requires.behind) (λ a r h called. (search rules, search rules)))
