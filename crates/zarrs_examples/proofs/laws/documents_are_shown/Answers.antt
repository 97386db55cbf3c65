use Rattle.zarrs_examples.proofs.maps.DocumentsSet as law
use Rattle.zarrs_examples.proofs.laws.documents_are_shown.Goals as goal

pub returns : goal.returns
returns c = law.documents_are_shown
