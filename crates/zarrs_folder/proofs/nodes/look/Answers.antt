use Rattle.std.proofs.Common.{subst}
use Rattle.zarrs_path.specs.PathErrors.{RefusesSegments}
use Rattle.zarrs_folder.specs.Folders.{values_of}
use Rattle.zarrs_folder.proofs.LoadingSteps.{no_path_done, ok_both}
use Rattle.zarrs_folder.proofs.nodes.look.Goals as goal

pub returns-in-Err-Invalid-clause-ok : goal.returns-in-Err-Invalid-clause-ok
returns-in-Err-Invalid-clause-ok g c = ok_both c.keep_one.result
    (λ grows below V agrees way.
    no_path_done c.args.walk.documents V c.args.walk.base.now (values_of c.args.loaded.now.inner) (values_of c.keep_one.new.loaded.inner) c.args.ahead.now.items c.args.prefix (grows V agrees) way (below V agrees)
    c.as_str-valid.ensures.valid (subst (RefusesSegments c.args.prefix) c.in-Err-Invalid.field-0-is c.in-Err-Invalid.ensures.err).1)
    c.keep_one.ensures.grows c.keep_one.ensures.below
