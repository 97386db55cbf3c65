use Rattle.zarrs_examples.proofs.maps.DefaultVersion as law
use Rattle.zarrs_examples.proofs.laws.default_is_version_2.Goals as goal

pub returns : goal.returns
returns c = law.default_is_version_2
