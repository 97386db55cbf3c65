use Rattle.zarrs_group.proofs.WholeEdits as law
use Rattle.zarrs_group.proofs.laws.whole_edits_are_exact.Goals as goal

pub returns : goal.returns
returns c = law.whole_edits_are_exact
