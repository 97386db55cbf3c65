use Rattle.zarrs_group.proofs.StoredBlocks as law
use Rattle.zarrs_group.proofs.laws.edit_keeps_others.Goals as goal

pub returns : goal.returns
returns c = law.edit_keeps_others
