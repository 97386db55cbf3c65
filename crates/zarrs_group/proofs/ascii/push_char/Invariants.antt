use Rattle.std.proofs.Common.{◌≡◌, ◌++◌, take, flat_map}
use Rattle.zarrs_group.specs.AsciiTexts.{unit_escape}
use Rattle.zarrs_group.proofs.ascii.push_char.Given as goal

-- the units so far are written
abbrev pub invariant-loop-unit : goal.invariant-loop-unit
invariant-loop-unit l = l.out.items ≡ l.initial.out.items ++ flat_map unit_escape (take l.unit-index l.unit-items)
