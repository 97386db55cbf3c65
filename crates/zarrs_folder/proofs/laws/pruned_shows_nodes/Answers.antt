use Rattle.zarrs_folder.proofs.PrunedListings.{pruned_shows_nodes}
use Rattle.zarrs_folder.proofs.laws.pruned_shows_nodes.Goals as goal

pub returns : goal.returns
returns c = pruned_shows_nodes
