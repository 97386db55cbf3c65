use Rattle.zarrs_group.proofs.StoredAgain as law
use Rattle.zarrs_group.proofs.laws.stored_v2_gives_back.Goals as goal

pub returns : goal.returns
returns c = law.stored_v2_gives_back
