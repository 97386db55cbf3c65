use Rattle.std.proofs.Common.{rules, ◌∙◌, ◌++◌, sym, ap, subst}
use Rattle.std.specs.Vec.{vec_len}
use Rattle.std.proofs.lemmas.List.{nil_from_length}
use Rattle.zarrs_store.specs.Contents.{Lists}
use Rattle.zarrs_node.proofs.walk.SinkSteps.{listed_pairs, ascending_pairs}
use Rattle.zarrs_check.specs.Surveys.{BadDocuments}
use Rattle.zarrs_check.proofs.PartsOfStores.{empty_or_not, part_of_array, part_of_bad, part_of_walk}
use Rattle.zarrs_check.proofs.SurveyFaults.{have_apart, lists_documents}
use Rattle.zarrs_check.proofs.blocks_above.part_from.Goals as goal

pub returns-then-is_array-clause-part : goal.returns-then-is_array-clause-part
returns-then-is_array-clause-part g c =
    part_of_array (g.S.Store.contents c.args.storage.now) c.args.version.now c.args.path.now c.in_ok-base.base (record { nodes = c.in_ok-nodes.nodes; bad = c.new-bad.result })
    c.in_ok-base.ensures.base (sym c.is_array_base-is_array.ensures ∙ c.if-is_array.true) c.in_ok-nodes.ensures.nodes (c.new-bad.ensures ∙ c.in_ok-nodes.ensures.bad)

pub returns-then-not-is_empty-clause-part : goal.returns-then-not-is_empty-clause-part
returns-then-not-is_empty-clause-part g c =
    let w = c.in_ok-walked.ensures in
    part_of_bad (g.S.Store.contents c.args.storage.now) c.args.version.now c.args.path.now c.in_ok-base.base c.in_ok-base.ensures.base (sym c.is_array_base-is_array.ensures ∙ c.if-is_array.false)
    c.walk_past_faults.new.sink.items (listed_pairs _ _ _ _ w.takes c.new-below.ensures.items) (ascending_pairs _ _ _ _ w.takes c.new-below.ensures.items)
    (record { nodes = c.append.new.self; bad = c.new-bad-then-not-is_empty.result })
    (c.in_ok-append.ensures.items ∙ ap (λ xs. xs ++ c.walk_past_faults.new.sink.items) c.in_ok-nodes.ensures.nodes)
    (c.new-bad-then-not-is_empty.ensures ∙ c.in_ok-nodes.ensures.bad)
    (λ none. empty_or_not c.in_ok-nodes.bad.items (vec_len c.in_ok-nodes.bad) (search rules) (c.in_ok-nodes.ensures.bad ∙ none) c.if-not-is_empty.ensures)

pub sort_faults-requires-clause-apart : goal.sort_faults-requires-clause-apart
sort_faults-requires-clause-apart g c =
    have_apart (g.S.Store.contents c.args.storage.now) c.args.version.now c.args.path.now _ c.in_ok-walked.ensures.faults c.in_ok-walked.ensures.faults_ascend

pub returns-clause-part : goal.returns-clause-part
returns-clause-part g c =
    let s = g.S.Store.contents c.args.storage.now in
    let v = c.args.version.now in
    let b = c.args.path.now in
    let w = c.in_ok-walked.ensures in
    part_of_walk s v b c.in_ok-base.base c.in_ok-base.ensures.base (sym c.is_array_base-is_array.ensures ∙ c.if-is_array.false)
    c.walk_past_faults.new.sink.items (listed_pairs _ _ _ _ w.takes c.new-below.ensures.items) (ascending_pairs _ _ _ _ w.takes c.new-below.ensures.items)
    (record { nodes = c.append.new.self; bad = c.in_ok-bad.bad })
    (c.in_ok-append.ensures.items ∙ ap (λ xs. xs ++ c.walk_past_faults.new.sink.items) c.in_ok-nodes.ensures.nodes)
    (subst (Lists (BadDocuments s v b)) (sym c.in_ok-bad.ensures.documents) (lists_documents s v b _ w.faults w.faults_ascend))
    (sym c.in_ok-nodes.ensures.bad ∙ nil_from_length c.in_ok-nodes.bad.items (search rules))
