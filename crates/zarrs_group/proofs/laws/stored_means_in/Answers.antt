use Rattle.zarrs_group.proofs.MeaningLaws as law
use Rattle.zarrs_group.proofs.laws.stored_means_in.Goals as goal

pub returns : goal.returns
returns c = law.stored_means_in
