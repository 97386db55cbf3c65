use Rattle.serde_json.specs.View.{members_view}
use Rattle.zarrs_block.proofs.NumbersWithin.{fits_within}
use Rattle.zarrs_block.proofs.zmetadata.block_of.Goals as goal

pub small_block-requires : goal.small_block-requires
small_block-requires c = fits_within c.args.numbers (members_view c.args.members.entries) (members_view c.in_ok-documents.documents.entries) c.requires c.in_ok-documents.ensures
