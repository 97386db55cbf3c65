use Rattle.std.proofs.Common.{◌≡◌, ◌++◌, ◌*◌, replicate, string_bytes}
use Rattle.zarrs_cli.proofs.shown.push_indent.Given as goal

-- two spaces for each step
abbrev pub invariant-loop-step : goal.invariant-loop-step
invariant-loop-step l = string_bytes l.text ≡ string_bytes l.initial.text ++ replicate (2 * l._step) 32
