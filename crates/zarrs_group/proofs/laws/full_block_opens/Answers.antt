use Rattle.zarrs_group.proofs.WrittenBlocks as law
use Rattle.zarrs_group.proofs.laws.full_block_opens.Goals as goal

pub returns : goal.returns
returns c = law.full_block_opens
