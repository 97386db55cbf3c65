use Rattle.std.proofs.Common.{◌≡◌, ◌++◌, drop}
use Rattle.std.specs.List.Sorted.{IsStrictlySortedBy}
use Rattle.std.specs.Map.{keys_of}
use Rattle.zarrs_path.specs.Paths.{path_cmp}
use Rattle.zarrs_hierarchy.proofs.hierarchy.Hierarchy.as_map.Given as goal

-- what was put and what is left make the whole, in order
abbrev pub invariant-loop-path : goal.invariant-loop-path
invariant-loop-path l =
    let whole = l.map.entries ++ drop l.path-index l.path-items in
    IsStrictlySortedBy path_cmp (keys_of whole) × (whole ≡ l.path-items)
