use Rattle.std.proofs.Common.{◌≡◌, flat_map}
use Rattle.zarrs_group.specs.AsciiTexts.{ascii_char}
use Rattle.zarrs_group.proofs.ascii.escaped.Given as goal

-- the characters so far are written
abbrev pub invariant-loop-letter : goal.invariant-loop-letter
invariant-loop-letter l = l.out.items ≡ flat_map ascii_char l.yielded
