use Rattle.std.proofs.Common.{◌≡◌, ◌++◌, string_bytes}
use Rattle.json.specs.Layout.{line}
use Rattle.zarrs_form.proofs.layout.write_deep_line.Given as goal

-- so many levels were written
abbrev pub invariant-loop : goal.invariant-loop
invariant-loop l = string_bytes l.out ≡ string_bytes l.fn.out ++ line l.counter
