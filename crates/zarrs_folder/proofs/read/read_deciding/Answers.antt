use Rattle.std.proofs.Common.{◌∙◌}
use Rattle.zarrs_path.specs.Keys.{zarr_json, zarray}
use Rattle.zarrs_folder.specs.Folders.{values_of}
use Rattle.zarrs_folder.proofs.DecidingDocuments.{by_array, by_group, by_json, first_found}
use Rattle.zarrs_folder.proofs.LoadingSteps.{grows_further, ok_both}
use Rattle.zarrs_folder.proofs.read.read_deciding.Goals as goal

pub returns-then-branch-clause-got : goal.returns-then-branch-clause-got
returns-then-branch-clause-got g c V agrees none =
    by_json V (values_of c.read_document.new.loaded.inner) c.args.prefix.now
    (first_found V c.args.prefix.now zarr_json _ (c.in_ok-read_document.ensures.found V agrees) ∙ c.if-branch.true) (c.in_ok-read_document.ensures.got V agrees none)

pub returns-then-branch-2-clause-grows : goal.returns-then-branch-2-clause-grows
returns-then-branch-2-clause-grows g c = ok_both c.read_document-then-branch-2.result
    (λ grows got V agrees.
    let second = c.read_document-then-branch-2.ensures.before V agrees in
    let first = c.read_document-2.ensures.before V second in
    let L = values_of c.read_document-2.new.loaded.inner in
    grows_further V (values_of c.args.loaded.now.inner) L (values_of c.read_document-then-branch-2.new.loaded.inner)
    (grows_further V (values_of c.args.loaded.now.inner) (values_of c.read_document.new.loaded.inner) L (c.in_ok-read_document.ensures.grows V first) (c.in_ok-read_document-2.ensures.grows V second))
    (grows V agrees))
    c.read_document-then-branch-2.ensures.grows c.read_document-then-branch-2.ensures.got

pub returns-then-branch-2-clause-got : goal.returns-then-branch-2-clause-got
returns-then-branch-2-clause-got g c = ok_both c.read_document-then-branch-2.result
    (λ grows got V agrees none.
    let p = c.args.prefix.now in
    let second = c.read_document-then-branch-2.ensures.before V agrees in
    let first = c.read_document-2.ensures.before V second in
    let one = c.in_ok-read_document.ensures.grows V first in
    let two = c.in_ok-read_document-2.ensures.grows V second in
    let three = grows V agrees in
    by_array V (values_of c.read_document-then-branch-2.new.loaded.inner) p
    (first_found V p zarr_json _ (c.in_ok-read_document.ensures.found V first) ∙ c.if-branch.false)
    (first_found V p zarray _ (c.in_ok-read_document-2.ensures.found V second) ∙ c.if-branch-2.true)
    (three.same _ (two.same _ (c.in_ok-read_document.ensures.got V first none))) (three.same _ (c.in_ok-read_document-2.ensures.got V second (one.keys none)))
    (got V agrees (two.keys (one.keys none))))
    c.read_document-then-branch-2.ensures.grows c.read_document-then-branch-2.ensures.got

pub returns-clause-grows : goal.returns-clause-grows
returns-clause-grows g c = ok_both c.read_document-4.result
    (λ grows got V agrees.
    let third = c.read_document-4.ensures.before V agrees in
    let second = c.read_document-3.ensures.before V third in
    let first = c.read_document-2.ensures.before V second in
    let K = values_of c.read_document-2.new.loaded.inner in
    let L = values_of c.read_document-3.new.loaded.inner in
    grows_further V (values_of c.args.loaded.now.inner) L (values_of c.read_document-4.new.loaded.inner)
    (grows_further V (values_of c.args.loaded.now.inner) K L
    (grows_further V (values_of c.args.loaded.now.inner) (values_of c.read_document.new.loaded.inner) K (c.in_ok-read_document.ensures.grows V first) (c.in_ok-read_document-2.ensures.grows V second))
    (c.in_ok-any.ensures.grows V third))
    (grows V agrees))
    c.read_document-4.ensures.grows c.read_document-4.ensures.got

pub returns-clause-got : goal.returns-clause-got
returns-clause-got g c = ok_both c.read_document-4.result
    (λ grows got V agrees none.
    let p = c.args.prefix.now in
    let third = c.read_document-4.ensures.before V agrees in
    let second = c.read_document-3.ensures.before V third in
    let first = c.read_document-2.ensures.before V second in
    let one = c.in_ok-read_document.ensures.grows V first in
    let two = c.in_ok-read_document-2.ensures.grows V second in
    let three = c.in_ok-any.ensures.grows V third in
    let four = grows V agrees in
    let none1 = one.keys none in
    let none2 = two.keys none1 in
    by_group V (values_of c.read_document-4.new.loaded.inner) p
    (first_found V p zarr_json _ (c.in_ok-read_document.ensures.found V first) ∙ c.if-branch.false)
    (first_found V p zarray _ (c.in_ok-read_document-2.ensures.found V second) ∙ c.if-branch-2.false)
    (four.same _ (three.same _ (two.same _ (c.in_ok-read_document.ensures.got V first none)))) (four.same _ (three.same _ (c.in_ok-read_document-2.ensures.got V second none1)))
    (four.same _ (c.in_ok-any.ensures.got V third none2)) (got V agrees (three.keys none2)))
    c.read_document-4.ensures.grows c.read_document-4.ensures.got
