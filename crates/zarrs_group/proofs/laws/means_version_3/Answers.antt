use Rattle.zarrs_group.proofs.StoredBlocks as law
use Rattle.zarrs_group.proofs.laws.means_version_3.Goals as goal

pub returns : goal.returns
returns c = law.means_version_3
