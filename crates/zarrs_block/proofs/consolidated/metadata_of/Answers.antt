use Rattle.std.proofs.Common.{codes, sym}
use Rattle.serde_json.specs.View.{view, members_view}
use Rattle.zarrs_block.proofs.NumbersWithin.{fits_at}
use Rattle.zarrs_block.proofs.consolidated.metadata_of.Goals as goal

pub nodes_of-requires : goal.nodes_of-requires
nodes_of-requires c =
    fits_at c.args.numbers (codes "metadata") (members_view c.args.members.now.entries) (view c.in-Some.value.now) (members_view c.in-Some-as_object.documents.now.entries) c.requires
    (sym c.in-Some.ensures) (sym c.in-Some-as_object.ensures)
