use Rattle.zarrs_group.proofs.GivesBack as law
use Rattle.zarrs_group.proofs.laws.stored_gives_back_in.Goals as goal

pub returns : goal.returns
returns c = law.stored_gives_back_in
