use Rattle.std.proofs.Common.{suc, take, drop, sym, ap, ◌∙◌, rules}
use Rattle.zarrs_examples.proofs.ConvertedNodes.{split, none_yet, pushed, one_more, first_refused}
use Rattle.zarrs_examples.proofs.converter.documents_of.Goals as goal
use Rattle.zarrs_examples.proofs.converter.documents_of.Goals.{in-Some+in_ok-push, in_default}

pub loop-path-init : goal.loop-path-init
loop-path-init g c = none_yet c.new-documents.result.items c.new-documents.ensures.items

pub returns-in_err-document-clause-refused : goal.returns-in_err-document-clause-refused
returns-in_err-document-clause-refused g c =
    let i = c.loop-path.path-index in
    let x = c.loop-path-item.result in
    let nodes = c.args.nodes.now in
    let refused = first_refused c.earlier_stands_before.ensures nodes (take i nodes) (drop (suc i) nodes) x c.loop-path.documents.items c.in_err-document.field-0.0 c.requires.ascending
    (split nodes i x c.loop-path-item.is c.loop-path-test.true) c.loop-path.invariant (i, c.loop-path-test.true, sym c.loop-path-item.is) c.in_err-document.ensures.refused in
    search (rules, refused)

pub loop-path-preserved : goal.loop-path-preserved
loop-path-preserved g c =
    let more = one_more c.args.nodes.now c.loop-path.path-index c.loop-path-item.result c.loop-path-item.is c.loop-path-test.true c.loop-path.documents.items c.match-branch-2.documents.items c.loop-path.invariant
    c.in_ok-document.field-0 c.in_ok-document.ensures.ok in
    elim c.match-branch-2.branch [
      | in-Some+in_ok-push w ↦ more (ap (λ v. v.items) w.documents-is ∙ w.in_ok-push.ensures.items ∙ ap (pushed c.loop-path.documents.items) (sym w.in-Some.is))
      | in_default w ↦ more (ap (λ v. v.items) w.documents-is ∙ ap (pushed c.loop-path.documents.items) (sym w.in_default.is))
    ]
