use Rattle.zarrs_node.proofs.LawProofs as law
use Rattle.zarrs_node.proofs.laws.one_listing.Goals as goal

pub returns : goal.returns
returns c = law.one_listing
