use Rattle.std.proofs.Common.{sym, subst}
use Rattle.zarrs_store.specs.Contents.{Lists}
use Rattle.zarrs_node.specs.Faults.{PathsAscend}
use Rattle.zarrs_node.proofs.walk.SinkSteps.{listed_pairs, ascending_pairs}
use Rattle.zarrs_check.specs.Surveys.{BadDocuments, BadNames}
use Rattle.zarrs_check.proofs.SurveyFaults.{have_paths, have_apart, lists_documents, lists_names, names_ascend}
use Rattle.zarrs_check.proofs.survey.Survey.of_store.Goals as goal

pub sort_faults-requires-clause-paths : goal.sort_faults-requires-clause-paths
sort_faults-requires-clause-paths g c =
    have_paths (g.S.Store.contents c.args.storage.now) c.args.version.now c.args.path.now _ c.in_ok-walked.ensures.faults c.in_ok-walked.ensures.faults_ascend c.as_str-valid.ensures.valid

pub sort_faults-requires-clause-apart : goal.sort_faults-requires-clause-apart
sort_faults-requires-clause-apart g c =
    have_apart (g.S.Store.contents c.args.storage.now) c.args.version.now c.args.path.now _ c.in_ok-walked.ensures.faults c.in_ok-walked.ensures.faults_ascend

pub invariant_of-result : goal.invariant_of-result
invariant_of-result g c = record { nodes_ascend = ascending_pairs _ _ _ _ c.in_ok-walked.ensures.takes c.new-nodes.ensures.items }

pub returns-clause-surveyed : goal.returns-clause-surveyed
returns-clause-surveyed g c =
    let s = g.S.Store.contents c.args.storage.now in
    let v = c.args.version.now in
    let b = c.args.path.now in
    let w = c.in_ok-walked.ensures in
    record {
      path = c.in_ok-try_clone.ensures.ok;
      base = c.in_ok-base.ensures.base;
      nodes = listed_pairs _ _ _ _ w.takes c.new-nodes.ensures.items;
      nodes_ascend = ascending_pairs _ _ _ _ w.takes c.new-nodes.ensures.items;
      ignored = w.ignored;
      ignored_ascend = w.ignored_ascend;
      bad_documents = subst (Lists (BadDocuments s v b)) (sym c.in_ok-bad_documents.ensures.documents) (lists_documents s v b _ w.faults w.faults_ascend);
      bad_names = subst (Lists (BadNames s v b)) (sym c.in_ok-bad_documents.ensures.names) (lists_names s v b _ w.faults w.faults_ascend);
      bad_names_ascend = subst PathsAscend (sym c.in_ok-bad_documents.ensures.names) (names_ascend _ w.faults_ascend);
    }
