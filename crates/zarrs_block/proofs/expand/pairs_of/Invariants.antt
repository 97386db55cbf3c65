use Rattle.std.proofs.Common.{IsTrue}
use Rattle.zarrs_block.proofs.BlockLaws.{shown}
use Rattle.zarrs_block.proofs.Expansion.{IsExpanding}
use Rattle.zarrs_block.proofs.PlainKeys.{ArePlain}
use Rattle.zarrs_block.proofs.expand.pairs_of.Given as goal

-- the first keys have their pairs, and the others are left; all are plain where the first are known to be, and the others are
abbrev pub invariant-loop-key : goal.invariant-loop-key
invariant-loop-key l = record {
  expanding : IsExpanding l.path l.fn.block.metadata l.all.items (shown l.key-iterator);
  plain : IsTrue l.plain → ArePlain (shown l.key-iterator) → ArePlain l.fn.block.metadata;
}
