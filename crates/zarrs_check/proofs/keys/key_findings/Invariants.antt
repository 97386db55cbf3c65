use Rattle.std.proofs.Common.{◌≡◌, ◌++◌}
use Rattle.zarrs_block.proofs.BlockLaws.{shown}
use Rattle.zarrs_check.specs.StepsOfComparing.{key_findings}
use Rattle.zarrs_check.proofs.keys.key_findings.Given as goal

-- what is told, and what there is to tell of the keys that are left, make the whole
abbrev pub invariant-loop-key : goal.invariant-loop-key
invariant-loop-key l = l.found.items ++ key_findings l.group l.block (shown l.key-iterator) ≡ key_findings l.group l.block l.block
