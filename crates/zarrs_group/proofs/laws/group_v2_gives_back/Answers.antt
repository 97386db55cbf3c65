use Rattle.zarrs_group.proofs.GivesBack as law
use Rattle.zarrs_group.proofs.laws.group_v2_gives_back.Goals as goal

pub returns : goal.returns
returns c = law.group_v2_gives_back
