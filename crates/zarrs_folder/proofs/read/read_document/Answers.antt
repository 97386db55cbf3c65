use Rattle.std.proofs.Common.{is_some, sym, ap, ◌∙◌}
use Rattle.std.specs.Prelude.{◌||◌}
use Rattle.std.specs.FinMap as map
use Rattle.zarrs_folder.specs.Folders.{values_of}
use Rattle.zarrs_folder.proofs.LoadingSteps.{document_below, document_got, document_grown, inserted_has, some_found}
use Rattle.zarrs_folder.proofs.read.read_document.Goals as goal

pub returns-in_ok-insert-in-Some-clause-grows : goal.returns-in_ok-insert-in-Some-clause-grows
returns-in_ok-insert-in-Some-clause-grows g c V agrees =
    document_grown V (values_of c.args.loaded.now.inner) (values_of c.insert.new.self) c.in_ok-key.key c.in-Some.bytes.items c.in_ok-insert-in-Some.ensures.ok
    (some_found _ _ _ _ (c.in_ok-bytes.ensures.ok V agrees) c.in-Some.is)

pub returns-in_ok-insert-in-Some-clause-got : goal.returns-in_ok-insert-in-Some-clause-got
returns-in_ok-insert-in-Some-clause-got g c V agrees none =
    document_got V (values_of c.args.loaded.now.inner) (values_of c.insert.new.self) c.args.prefix.now c.in_ok-key.key c.args.file.now c.in-Some.bytes.items
    c.in_ok-key.ensures c.in_ok-insert-in-Some.ensures.ok (some_found _ _ _ _ (c.in_ok-bytes.ensures.ok V agrees) c.in-Some.is)

pub returns-in_ok-insert-in-Some-clause-any : goal.returns-in_ok-insert-in-Some-clause-any
returns-in_ok-insert-in-Some-clause-any g c any found =
    document_below (values_of c.insert.new.self) c.args.prefix.now c.in_ok-key.key c.args.file.now c.in_ok-key.ensures
    (inserted_has (values_of c.args.loaded.now.inner) (values_of c.insert.new.self) c.in_ok-key.key c.in-Some.bytes.items c.in_ok-insert-in-Some.ensures.ok)

pub returns-in_ok-insert-in-Some-clause-found : goal.returns-in_ok-insert-in-Some-clause-found
returns-in_ok-insert-in-Some-clause-found g c V agrees =
    sym (ap (λ o. is_some o || c.args.any) (ap (map.get V) (sym c.in_ok-key.ensures) ∙ some_found _ _ _ _ (c.in_ok-bytes.ensures.ok V agrees) c.in-Some.is))
