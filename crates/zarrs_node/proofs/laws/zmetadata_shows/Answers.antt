use Rattle.zarrs_node.proofs.SmallShown as law
use Rattle.zarrs_node.proofs.laws.zmetadata_shows.Goals as goal

pub returns : goal.returns
returns c = law.zmetadata_shows
