use Rattle.std.proofs.Common.{◌++◌, map, string_bytes}
use Rattle.zarrs_block.specs.StepsOfKeys.{AreKeysBelow}
use Rattle.zarrs_block.proofs.BlockLaws.{texts}
use Rattle.zarrs_block.proofs.without.keys_below.Given as goal

-- the keys that were copied and those that are left are all
abbrev pub invariant-loop-below : goal.invariant-loop-below
invariant-loop-below l = AreKeysBelow l.key l.block (map string_bytes l.keys.items ++ texts l.below-iterator)
