use Rattle.zarrs_check.proofs.AgreeingBlocks.{good_blocks_agree}
use Rattle.zarrs_check.proofs.laws.good_blocks_agree.Goals as goal

pub returns : goal.returns
returns c = good_blocks_agree
