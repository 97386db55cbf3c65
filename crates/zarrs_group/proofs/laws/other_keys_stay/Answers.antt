use Rattle.zarrs_group.proofs.OtherKeys.{other_keys_stay}
use Rattle.zarrs_group.proofs.laws.other_keys_stay.Goals as goal

pub returns : goal.returns
returns c = other_keys_stay
