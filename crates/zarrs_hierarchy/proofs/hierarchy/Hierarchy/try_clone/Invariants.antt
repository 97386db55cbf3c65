use Rattle.std.proofs.Common.{◌≡◌, ◌++◌, drop}
use Rattle.zarrs_hierarchy.proofs.hierarchy.Hierarchy.try_clone.Given as goal

-- what was copied and what is left make the whole
abbrev pub invariant-loop-path : goal.invariant-loop-path
invariant-loop-path l = l.nodes.items ++ drop l.path-index l.path-items ≡ l.path-items
