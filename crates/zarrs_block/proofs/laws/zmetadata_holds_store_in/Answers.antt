use Rattle.zarrs_block.proofs.SmallBlocks.{store_law, ascending_law}
use Rattle.zarrs_block.proofs.laws.zmetadata_holds_store_in.Goals as goal

pub returns : goal.returns
returns c = λ d B h. (store_law c.args.numbers d B h, ascending_law c.args.numbers d B h)
