use Rattle.std.proofs.Common.{subst}
use Rattle.zarrs_folder.specs.Folders.{values_of}
use Rattle.zarrs_folder.specs.PassedPaths.{HoldsFilesOf}
use Rattle.zarrs_cli.proofs.folder.load_walked.Goals as goal

pub returns-clause-above : goal.returns-clause-above
returns-clause-above g c = λ V agrees g' low.
    let then = c.in_ok-store-2.ensures in
    let at = subst (HoldsFilesOf V (values_of c.in_ok-store-2.store.inner)) c.deref.ensures.value (then.at V agrees (c.in_ok-store.ensures.ok V (then.before V agrees)).base.keys) in
    at g' (c.in_ok-above.ensures g' low)
