use Rattle.zarrs_examples.proofs.maps.ErasedDocuments as law
use Rattle.zarrs_examples.proofs.laws.erased_are_absent.Goals as goal

pub returns : goal.returns
returns c = law.erased_are_absent
