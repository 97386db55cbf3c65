use Rattle.serde_json.specs.View.{members_view}
use Rattle.zarrs_block.proofs.NumbersWithin.{fits_within}
use Rattle.zarrs_block.proofs.consolidated.owned_metadata_of.Goals as goal

pub owned_nodes_of-requires : goal.owned_nodes_of-requires
owned_nodes_of-requires c = fits_within c.args.numbers (members_view c.args.members.entries) (members_view c.in_ok-documents.documents.entries) c.requires c.in_ok-documents.ensures
