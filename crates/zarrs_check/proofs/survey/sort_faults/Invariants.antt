use Rattle.std.proofs.Common.{◌≡◌, ◌++◌}
use Rattle.std.specs.Vec.Iter.{into_iter_items}
use Rattle.zarrs_check.specs.StepsOfSurveys.{HasPaths, documents_of, names_of}
use Rattle.zarrs_check.proofs.survey.sort_faults.Given as goal

-- what is sorted and what is left make the whole, and each bad document that is left stands at a path
abbrev pub invariant-loop-prefix : goal.invariant-loop-prefix
invariant-loop-prefix l =
    let left = into_iter_items l.prefix-iterator in
    (l.documents.items ++ documents_of left ≡ documents_of l.fn.faults.items)
    × (l.names.items ++ names_of left ≡ names_of l.fn.faults.items) × HasPaths left
