use Rattle.std.proofs.Common.{◌≡◌, ◌++◌}
use Rattle.zarrs_form.proofs.sorted.entries_of.Given as goal

-- what was pushed and what is left make the whole
abbrev pub invariant-loop-name : goal.invariant-loop-name
invariant-loop-name g l = l.entries.items ++ l.name-iterator ≡ l.fn.map.entries
