use Rattle.std.proofs.Common.{◌≡◌}
use Rattle.zarrs_block.proofs.BlockLaws.{shown}
use Rattle.zarrs_group.specs.Plain.{block_fault_in}
use Rattle.zarrs_group.proofs.BlockPlain.{entries_left, fault_left}
use Rattle.zarrs_group.proofs.plain.block_fault.Given as goal

abbrev pub invariant-loop-key : goal.invariant-loop-key
invariant-loop-key l = fault_left l.numbers l.clash (entries_left l.block.metadata (shown l.key-iterator)) ≡ block_fault_in l.numbers l.block.metadata
