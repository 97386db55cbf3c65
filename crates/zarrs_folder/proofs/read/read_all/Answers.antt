use Rattle.zarrs_folder.specs.Folders.{values_of}
use Rattle.zarrs_folder.proofs.DecidingDocuments.{files_grow, left_by_array, left_by_group, left_by_json, left_by_none}
use Rattle.zarrs_folder.proofs.LoadingSteps.{grows_further, ok_both}
use Rattle.zarrs_folder.proofs.read.read_all.Goals as goal

pub returns-then-found-clause-grows : goal.returns-then-found-clause-grows
returns-then-found-clause-grows g c = ok_both c.read_document.result
    (λ grows got V agrees.
    grows_further V (values_of c.args.loaded.now.inner) (values_of c.read_documents.new.loaded.inner) (values_of c.read_document.new.loaded.inner)
    (c.in_ok-found.ensures.grows V (c.read_document.ensures.before V agrees)) (grows V agrees))
    c.read_document.ensures.grows c.read_document.ensures.got

pub returns-then-found-clause-got : goal.returns-then-found-clause-got
returns-then-found-clause-got g c = ok_both c.read_document.result
    (λ grows got V agrees none.
    let before = c.read_document.ensures.before V agrees in
    let L = values_of c.read_documents.new.loaded.inner in
    let M = values_of c.read_document.new.loaded.inner in
    left_by_json V M c.args.prefix.now c.in_ok-found.found (c.in_ok-found.ensures.found V before)
    (files_grow V L M c.args.prefix.now (grows V agrees) (c.in_ok-found.ensures.got V before none))
    c.if-found.true (got V agrees ((c.in_ok-found.ensures.grows V before).keys none)))
    c.read_document.ensures.grows c.read_document.ensures.got

pub returns-then-found-3-clause-grows : goal.returns-then-found-3-clause-grows
returns-then-found-3-clause-grows g c = ok_both c.read_document-then-found-3.result
    (λ grows got V agrees.
    grows_further V (values_of c.args.loaded.now.inner) (values_of c.read_documents.new.loaded.inner) (values_of c.read_document-then-found-3.new.loaded.inner)
    (c.in_ok-found.ensures.grows V (c.read_document-then-found-3.ensures.before V agrees)) (grows V agrees))
    c.read_document-then-found-3.ensures.grows c.read_document-then-found-3.ensures.got

pub returns-then-found-3-clause-got : goal.returns-then-found-3-clause-got
returns-then-found-3-clause-got g c = ok_both c.read_document-then-found-3.result
    (λ grows got V agrees none.
    let before = c.read_document-then-found-3.ensures.before V agrees in
    let L = values_of c.read_documents.new.loaded.inner in
    let M = values_of c.read_document-then-found-3.new.loaded.inner in
    left_by_group V M c.args.prefix.now c.in_ok-found.found (c.in_ok-found.ensures.found V before)
    (files_grow V L M c.args.prefix.now (grows V agrees) (c.in_ok-found.ensures.got V before none))
    c.if-found.false c.if-found-2.false c.if-found-3.true (got V agrees ((c.in_ok-found.ensures.grows V before).keys none)))
    c.read_document-then-found-3.ensures.grows c.read_document-then-found-3.ensures.got

pub returns-then-found-2-clause-got : goal.returns-then-found-2-clause-got
returns-then-found-2-clause-got g c V agrees none =
    left_by_array V (values_of c.read_documents.new.loaded.inner) c.args.prefix.now c.in_ok-found.found (c.in_ok-found.ensures.found V agrees)
    (c.in_ok-found.ensures.got V agrees none) c.if-found.false c.if-found-2.true

pub returns-clause-got : goal.returns-clause-got
returns-clause-got g c V agrees none =
    left_by_none V (values_of c.read_documents.new.loaded.inner) c.args.prefix.now c.in_ok-found.found (c.in_ok-found.ensures.found V agrees)
    (c.in_ok-found.ensures.got V agrees none) c.if-found.false c.if-found-2.false c.if-found-3.false
