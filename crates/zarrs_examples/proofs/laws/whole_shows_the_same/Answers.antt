use Rattle.zarrs_examples.proofs.maps.MoreNumbers as law
use Rattle.zarrs_examples.proofs.laws.whole_shows_the_same.Goals as goal

pub returns : goal.returns
returns c = law.whole_shows_the_same
