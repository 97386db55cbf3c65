use Rattle.std.proofs.Common.{subst, sym}
use Rattle.zarrs_store.specs.Contents.{IsChildPrefix}
use Rattle.zarrs_folder.specs.Folders.{values_of}
use Rattle.zarrs_folder.proofs.LoadingSteps.{ok_both}
use Rattle.zarrs_folder.proofs.PassedPaths.{passed_begun, passed_ended}
use Rattle.zarrs_folder.proofs.passed.load_documents.Goals as goal

pub returns-clause-below : goal.returns-clause-below
returns-clause-below g c = ok_both c.load_ahead.result
    (λ grows ok V agrees none.
    passed_ended V c.args.path.now (values_of c.load_ahead.new.loaded.inner)
    (ok V agrees (passed_begun V c.args.path.now (values_of c.args.loaded.now.inner) c.in_ok-ahead.ahead.items none
    (λ child is. c.in_ok-ahead.ensures.complete V (c.load_ahead.ensures.before V agrees) child (subst (λ x. IsChildPrefix V x child) (sym c.in_ok-prefix.ensures.ok) is)))))
    c.load_ahead.ensures.grows c.load_ahead.ensures.ok
