use Rattle.zarrs_examples.proofs.maps.MapsShown as law
use Rattle.zarrs_examples.proofs.laws.mapped_is_shown.Goals as goal

pub returns : goal.returns
returns c = law.mapped_is_shown
