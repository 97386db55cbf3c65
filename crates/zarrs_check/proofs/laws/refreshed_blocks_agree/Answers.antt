use Rattle.zarrs_check.proofs.RefreshedBlocks.{refreshed_blocks_agree}
use Rattle.zarrs_check.proofs.laws.refreshed_blocks_agree.Goals as goal

pub returns : goal.returns
returns c = refreshed_blocks_agree
