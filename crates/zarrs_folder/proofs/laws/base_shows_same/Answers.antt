use Rattle.zarrs_folder.proofs.PrunedListings.{base_shows_same}
use Rattle.zarrs_folder.proofs.laws.base_shows_same.Goals as goal

pub returns : goal.returns
returns c = base_shows_same
