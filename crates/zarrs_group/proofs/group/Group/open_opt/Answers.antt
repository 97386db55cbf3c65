use Rattle.std.proofs.Common.{subst}
use Rattle.zarrs_group.specs.Meaning.{group_meaning}
use Rattle.zarrs_group.specs.StepsOfGroups.{FindsMeaning}
use Rattle.zarrs_group.specs.OpeningGroups.{IsUnsupportedIn}
use Rattle.zarrs_group.proofs.group.Group.open_opt.Goals as goal

-- the group was found at the path, and the field is among its own
pub returns-in-Some-2-clause-err : goal.returns-in-Some-2-clause-err
returns-in-Some-2-clause-err g c = record {
  path = c.in_ok-path.path;
  valid = c.in_ok-path.ensures.valid;
  is = c.in_ok-path.ensures.text;
  metadata = c.in-Some.found;
  means = subst (λ found. FindsMeaning found (group_meaning (g.S.Store.contents c.args.storage.now) c.args.version.now c.in_ok-path.path)) c.in-Some.is c.in_ok-found.ensures.ok;
  unsupported = subst (IsUnsupportedIn c.in-Some.found) c.in-Some-2.is c.in_ok-error.ensures;
}
