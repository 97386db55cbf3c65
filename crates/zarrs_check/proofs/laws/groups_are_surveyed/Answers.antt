use Rattle.zarrs_check.proofs.LawProofs.{groups_are_surveyed}
use Rattle.zarrs_check.proofs.laws.groups_are_surveyed.Goals as goal

pub returns : goal.returns
returns c = groups_are_surveyed
