use Rattle.zarrs_group.proofs.WrittenBlocks as law
use Rattle.zarrs_group.proofs.laws.written_block_opens.Goals as goal

pub returns : goal.returns
returns c = law.written_block_opens
