use Rattle.zarrs_examples.proofs.maps.ErasedDocuments as law
use Rattle.zarrs_examples.proofs.laws.beside_means_same.Goals as goal

pub returns : goal.returns
returns c = law.beside_means_same
