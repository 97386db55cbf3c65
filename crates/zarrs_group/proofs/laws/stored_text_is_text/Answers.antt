use Rattle.zarrs_group.proofs.WholeEdits as law
use Rattle.zarrs_group.proofs.laws.stored_text_is_text.Goals as goal

pub returns : goal.returns
returns c = law.stored_text_is_text
