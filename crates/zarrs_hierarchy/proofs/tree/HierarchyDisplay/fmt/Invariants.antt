use Rattle.std.proofs.Common.{◌≡◌, ◌++◌, drop, List, ℕ, []}
use Rattle.std.specs.Fmt.{HasWritten, IsPlainFormatter}
use Rattle.zarrs_node.specs.Lines.{lines}
use Rattle.zarrs_hierarchy.specs.Tree.{pairs_below}
use Rattle.zarrs_hierarchy.proofs.tree.HierarchyDisplay.fmt.Given as goal

-- what is written and what is left below the root make the whole
abbrev pub invariant-loop-path : goal.invariant-loop-path
invariant-loop-path g l =
    IsPlainFormatter l.initial.f → (done : List ℕ) × (done ++ lines [] (pairs_below [] (drop l.path-index l.path-items)) ≡ lines [] (pairs_below [] l.self)) × HasWritten g.W.Write.write_str_gives l.initial.f done l.f
