use Rattle.zarrs_check.proofs.AgreeingBlocks.{good_entries_are_nodes}
use Rattle.zarrs_check.proofs.laws.good_entries_are_nodes.Goals as goal

pub returns : goal.returns
returns c = good_entries_are_nodes
