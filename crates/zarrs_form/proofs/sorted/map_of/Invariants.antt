use Rattle.std.proofs.Common.{◌≡◌, ◌++◌}
use Rattle.std.specs.Vec.Iter.{into_iter_items}
use Rattle.zarrs_form.proofs.sorted.map_of.Given as goal

-- what was put and what is left make the whole
abbrev pub invariant-loop-name : goal.invariant-loop-name
invariant-loop-name g l = l.map.entries ++ into_iter_items l.name-iterator ≡ l.fn.entries.items
