use Rattle.zarrs_group.proofs.WholeEdits as law
use Rattle.zarrs_group.proofs.laws.whole_refusal_is_exact.Goals as goal

pub returns : goal.returns
returns c = law.whole_refusal_is_exact
