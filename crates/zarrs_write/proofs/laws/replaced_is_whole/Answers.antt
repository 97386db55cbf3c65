use Rattle.zarrs_write.proofs.Harmless.{replaced_is_whole}
use Rattle.zarrs_write.proofs.laws.replaced_is_whole.Goals as goal

pub returns : goal.returns
returns c = replaced_is_whole
