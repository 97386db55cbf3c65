use Rattle.zarrs_block.proofs.SmallBlocks.{only_law}
use Rattle.zarrs_block.proofs.laws.one_block_holds_store_in.Goals as goal

pub returns : goal.returns
returns c = only_law c.args.numbers
