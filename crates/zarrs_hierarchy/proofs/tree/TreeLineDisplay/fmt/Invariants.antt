use Rattle.std.proofs.Common.{◌*◌, replicate}
use Rattle.std.specs.Fmt.{HasWritten, IsPlainFormatter}
use Rattle.zarrs_hierarchy.proofs.tree.TreeLineDisplay.fmt.Given as goal

-- two spaces for each level so far
abbrev pub invariant-loop-level : goal.invariant-loop-level
invariant-loop-level g l =
    IsPlainFormatter l.initial.f → HasWritten g.W.Write.write_str_gives l.initial.f (replicate (2 * l._level) 32) l.f
