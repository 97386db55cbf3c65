use Rattle.zarrs_hierarchy.proofs.LawProofs as law
use Rattle.zarrs_hierarchy.proofs.laws.shown_is_tree.Goals as goal

pub returns : goal.returns
returns c = law.shown_is_tree
