use Rattle.zarrs_folder.proofs.PassedPaths.{passed_hold_same}
use Rattle.zarrs_folder.proofs.laws.passed_hold_same.Goals as goal

pub returns : goal.returns
returns c = passed_hold_same
