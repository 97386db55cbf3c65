use Rattle.std.proofs.Common.{subst, sym}
use Rattle.zarrs_store.specs.Contents.{IsChildPrefix}
use Rattle.zarrs_folder.specs.Folders.{values_of}
use Rattle.zarrs_folder.specs.PrunedStores.{HasLoaded, HasSameFiles}
use Rattle.zarrs_folder.proofs.LoadingSteps.{all_loaded, begun}
use Rattle.zarrs_folder.proofs.nodes.load_children.Goals as goal

pub returns-clause-ok : goal.returns-clause-ok
returns-clause-ok g c V agrees base =
    let walked = c.in_ok-walk_on.ensures.before V agrees in
    let listed = c.in_ok-ahead.ensures.before V walked in
    let prefix = sym c.in_ok-prefix.ensures.ok in
    let got = c.in_ok-read_left.ensures.got V listed base.keys (subst (HasSameFiles V (values_of c.args.store.inner)) prefix base.documents) in
    all_loaded c.args.documents V c.args.base.now (values_of c.walk_on.new.loaded.inner)
    (c.in_ok-walk_on.ensures.ok V agrees
    (begun c.args.documents V c.args.base.now (values_of c.args.store.inner) (values_of c.read_left.new.loaded.inner) c.in_ok-ahead.ahead.items base (c.in_ok-read_left.ensures.grows V listed)
    (subst (HasLoaded c.args.documents V (values_of c.read_left.new.loaded.inner)) (sym prefix) got)
    (λ child is. c.in_ok-ahead.ensures.complete V walked child (subst (λ x. IsChildPrefix V x child) prefix is))))
