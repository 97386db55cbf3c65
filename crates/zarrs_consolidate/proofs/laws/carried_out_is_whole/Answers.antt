use Rattle.zarrs_consolidate.proofs.CarryingOut.{carried_out_is_whole}
use Rattle.zarrs_consolidate.proofs.laws.carried_out_is_whole.Goals as goal

pub returns : goal.returns
returns c = carried_out_is_whole c.replaced_is_whole.ensures c.removed_is_whole.ensures
