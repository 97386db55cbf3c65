use Rattle.std.proofs.Common.{sym, subst}
use Rattle.zarrs_folder.specs.Folders.{values_of}
use Rattle.zarrs_folder.specs.PrunedStores.{HasLoaded}
use Rattle.zarrs_folder.proofs.LoadingSteps.{ok_both}
use Rattle.zarrs_folder.proofs.read.read_some.Goals as goal

pub returns-in-All-clause-got : goal.returns-in-All-clause-got
returns-in-All-clause-got g c = ok_both c.read_all.result
    (λ grows got V agrees none. subst (λ d. HasLoaded d V (values_of c.read_all.new.loaded.inner) c.args.prefix.now) (sym c.in-All.is) (got V agrees none))
    c.read_all.ensures.grows c.read_all.ensures.got

pub returns-in-Deciding-clause-got : goal.returns-in-Deciding-clause-got
returns-in-Deciding-clause-got g c = ok_both c.read_deciding.result
    (λ grows got V agrees none. subst (λ d. HasLoaded d V (values_of c.read_deciding.new.loaded.inner) c.args.prefix.now) (sym c.in-Deciding.is) (got V agrees none))
    c.read_deciding.ensures.grows c.read_deciding.ensures.got
