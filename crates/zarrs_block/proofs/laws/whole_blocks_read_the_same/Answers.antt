use Rattle.zarrs_block.proofs.MoreBlocks.{whole_blocks_read_the_same}
use Rattle.zarrs_block.proofs.laws.whole_blocks_read_the_same.Goals as goal

pub returns : goal.returns
returns c = whole_blocks_read_the_same
