use Rattle.zarrs_examples.proofs.maps.ErasedDocuments as law
use Rattle.zarrs_examples.proofs.laws.keys_stand_beside.Goals as goal

pub returns : goal.returns
returns c = law.keys_stand_beside
