use Rattle.std.proofs.Common.{◌≡◌, drop}
use Rattle.std.specs.List.{list_any}
use Rattle.zarrs_block.specs.StepsOfExpansion.{is_low}
use Rattle.zarrs_block.proofs.expand.has_low.Given as goal

-- a byte of the text is low where one of those that are left is
abbrev pub invariant-loop-byte : goal.invariant-loop-byte
invariant-loop-byte l = list_any is_low (drop l.byte-index l.byte-items) ≡ list_any is_low l.byte-items
