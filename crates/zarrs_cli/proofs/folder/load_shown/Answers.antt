use Rattle.std.proofs.Common.{◌≡◌, false, rules}
use Rattle.zarrs_folder.specs.Folders.{in_any, values_of}
use Rattle.zarrs_folder.specs.declared.documents.Documents.TheVariants.{Deciding}
use Rattle.zarrs_folder.proofs.Openings.{base_opens_same, loaded_opens_same}
use Rattle.zarrs_cli.proofs.folder.load_shown.Goals as goal

pub returns-then-not-is_listed-clause-ok : goal.returns-then-not-is_listed-clause-ok
returns-then-not-is_listed-clause-ok g c =
    let no : c.is_listed.result ≡ false = search rules in
    λ V agrees. base_opens_same (in_any V) (in_any (values_of c.in_ok-store.store.inner)) c.args.base.now (c.in_ok-store.ensures.ok V agrees) c.args.policy (c.is_listed.ensures no)

pub returns-clause-ok : goal.returns-clause-ok
returns-clause-ok g c =
    λ V agrees.
    loaded_opens_same Deciding (in_any V) (in_any (values_of c.in_ok-store-2.store.inner)) c.args.base.now (c.in_ok-store-2.ensures.ok V agrees (c.in_ok-store.ensures.ok V (c.in_ok-store-2.ensures.before V agrees)))
    c.args.policy
