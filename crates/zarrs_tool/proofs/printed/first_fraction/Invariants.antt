use Rattle.zarrs_block.proofs.BlockLaws.{shown}
use Rattle.zarrs_tool.proofs.Fractions.{IsLeft}
use Rattle.zarrs_tool.proofs.printed.first_fraction.Given as goal

abbrev pub invariant-loop-key : goal.invariant-loop-key
invariant-loop-key l = IsLeft l.block (shown l.key-iterator)
