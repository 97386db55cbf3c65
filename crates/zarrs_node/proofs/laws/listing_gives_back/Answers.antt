use Rattle.zarrs_node.proofs.Inverse as law
use Rattle.zarrs_node.proofs.laws.listing_gives_back.Goals as goal

pub returns : goal.returns
returns c = law.listing_gives_back
