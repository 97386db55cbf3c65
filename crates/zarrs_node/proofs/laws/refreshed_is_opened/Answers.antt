use Rattle.zarrs_node.proofs.blocks.Current as law
use Rattle.zarrs_node.proofs.laws.refreshed_is_opened.Goals as goal

pub returns : goal.returns
returns c = law.refreshed_is_opened
