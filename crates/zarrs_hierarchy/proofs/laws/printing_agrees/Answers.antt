use Rattle.zarrs_hierarchy.proofs.LawProofs as law
use Rattle.zarrs_hierarchy.proofs.laws.printing_agrees.Goals as goal

pub returns : goal.returns
returns c = law.printing_agrees
