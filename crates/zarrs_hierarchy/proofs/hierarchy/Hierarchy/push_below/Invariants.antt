use Rattle.std.proofs.Common.{◌≡◌, ◌∷◌, ◌++◌, drop, string_bytes}
use Rattle.std.specs.List.Sorted.{IsStrictlySortedBy}
use Rattle.std.specs.Map.{keys_of}
use Rattle.zarrs_path.specs.Paths.{path_cmp}
use Rattle.zarrs_node.specs.Lines.{lines}
use Rattle.zarrs_hierarchy.specs.Tree.{pairs_below}
use Rattle.zarrs_hierarchy.proofs.hierarchy.Hierarchy.push_below.Given as goal

-- what is written and what is left below the base make the whole, and what is left ascends from the base on
abbrev pub invariant-loop-path : goal.invariant-loop-path
invariant-loop-path l =
    let left = drop l.path-index l.path-items in
    IsStrictlySortedBy path_cmp (l.base ∷ keys_of left)
    × (string_bytes l.text ++ lines l.base (pairs_below l.base left) ≡ string_bytes l.initial.text ++ lines l.base (pairs_below l.base l.self))
