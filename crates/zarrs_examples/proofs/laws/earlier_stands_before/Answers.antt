use Rattle.zarrs_examples.proofs.maps.InFront as law
use Rattle.zarrs_examples.proofs.laws.earlier_stands_before.Goals as goal

pub returns : goal.returns
returns c = law.earlier_stands_before
