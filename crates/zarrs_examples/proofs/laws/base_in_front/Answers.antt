use Rattle.zarrs_examples.proofs.maps.InFront as law
use Rattle.zarrs_examples.proofs.laws.base_in_front.Goals as goal

pub returns : goal.returns
returns c = law.base_in_front
