use Rattle.zarrs_examples.proofs.maps.ErasedDocuments as law
use Rattle.zarrs_examples.proofs.laws.others_are_kept.Goals as goal

pub returns : goal.returns
returns c = law.others_are_kept
