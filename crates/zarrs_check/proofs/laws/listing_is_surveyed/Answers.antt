use Rattle.zarrs_check.proofs.LawProofs.{listing_is_surveyed}
use Rattle.zarrs_check.proofs.laws.listing_is_surveyed.Goals as goal

pub returns : goal.returns
returns c = listing_is_surveyed
