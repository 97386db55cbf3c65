use Rattle.std.proofs.Common.{ap, is_some}
use Rattle.zarrs_group.proofs.plain.has_member.Goals as goal

pub returns-in-Some : goal.returns-in-Some
returns-in-Some c = ap is_some c.in-Some.ensures

pub returns-in-None : goal.returns-in-None
returns-in-None c = ap is_some c.in-None.ensures
