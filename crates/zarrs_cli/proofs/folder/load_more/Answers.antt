use Rattle.std.proofs.Common.{subst, ◌∙◌}
use Rattle.zarrs_folder.specs.Folders.{in_any, values_of}
use Rattle.zarrs_folder.specs.PassedPaths.{HoldsBelow, HoldsFilesOf}
use Rattle.zarrs_cli.proofs.LoadedEnough.{all_settled}
use Rattle.zarrs_cli.proofs.folder.load_more.Goals as goal

pub returns-clause-ok : goal.returns-clause-ok
returns-clause-ok g c = λ V agrees loaded upper checked.
    let L = in_any (values_of c.args.store.inner) in
    let b = c.args.base.now in
    let first = c.in_ok-store.ensures in
    let then = c.in_ok-store-2.ensures in
    let before = then.before V agrees in
    let more = first.ok V before loaded in
    let below = subst (HoldsBelow V (values_of c.in_ok-store.store.inner)) (c.deref.ensures.value ∙ c.in_ok-passed.ensures.passed) (first.below V before loaded.base.keys) in
    let at = subst (HoldsFilesOf V (values_of c.in_ok-store-2.store.inner)) (c.deref-2.ensures.value ∙ c.in_ok-passed.ensures.stale) (then.at V agrees more.base.keys) in
    all_settled (in_any V) L (in_any (values_of c.in_ok-store.store.inner)) (in_any (values_of c.in_ok-store-2.store.inner)) b loaded upper (then.ok V agrees more) (first.grows V before) (then.grows V agrees)
    c.args.checked checked below at
