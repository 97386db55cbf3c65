use Rattle.zarrs_write.proofs.Harmless.{unsynced_may_be_anything}
use Rattle.zarrs_write.proofs.laws.unsynced_may_be_anything.Goals as goal

pub returns : goal.returns
returns c = unsynced_may_be_anything
