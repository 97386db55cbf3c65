use Rattle.std.proofs.Common.{◌≡◌, drop}
use Rattle.std.specs.List.{list_any}
use Rattle.zarrs_form.specs.StepsOfTexts.{has_escape}
use Rattle.zarrs_form.proofs.text.is_bare.Given as goal

abbrev pub invariant-loop-byte : goal.invariant-loop-byte
invariant-loop-byte l = list_any has_escape (drop l.byte-index l.byte-items) ≡ list_any has_escape l.byte-items
