use Rattle.std.proofs.Common.{ap, sym, subst, true, Contains}
use Rattle.std.specs.Prelude.{IfErr}
use Rattle.std.proofs.lemmas.Result.{err_from_is_err_and}
use Rattle.zarrs_store.specs.Contents.{Lists}
use Rattle.zarrs_store.specs.Faults.{IsStoreError}
use Rattle.zarrs_node.specs.Faults.{PathsAscend}
use Rattle.zarrs_node.specs.Nodes.{Nodes}
use Rattle.zarrs_check.specs.Alike.{AreAlikeAmong}
use Rattle.zarrs_check.specs.Checks.{HasNodeAt, IsBaseFault}
use Rattle.zarrs_check.specs.StepsOfOrphans.{AreOrphansAmong}
use Rattle.zarrs_check.specs.StepsOfTaking.{base_nodes, blocks_of}
use Rattle.zarrs_meaning.specs.Exists.{HasNodeKey}
use Rattle.zarrs_check.specs.Surveys.{BadDocuments, BadNames}
use Rattle.zarrs_check.proofs.CheckedBlocks.{of_ends, of_taken}
use Rattle.zarrs_check.proofs.DocumentCounts.{orphans_listed}
use Rattle.zarrs_check.proofs.TakenNodes.{has_all, blocks_ascend, nodes_counted, refused_so, base_faulted}
use Rattle.zarrs_check.proofs.SurveyFaults.{have_paths, have_apart, lists_documents, lists_names, names_ascend}
use Rattle.zarrs_check.proofs.AlikeNames.{alike_over}
use Rattle.zarrs_check.proofs.VisitedNodes.{compared_all, lists_paths, lists_told, walk_of}
use Rattle.zarrs_check.proofs.check.Check.of_base.Goals as goal

pub returns-in_err-outcome-clause-excused : goal.returns-in_err-outcome-clause-excused
returns-in_err-outcome-clause-excused g c =
    let s = g.S.Store.contents c.args.storage.now in
    let told = refused_so g.S.Store.contents g.S.Store.can_fail c.new-taken.result.comparisons c.take_base.new.self.comparisons c.walk_past_faults.new.sink.comparisons s c.args.version.now c.args.path.now
    c.in_ok-try_clone.field-0 c.args.base c.in_ok-try_clone.ensures.ok (ap g.S.Store.contents c.new-taken.ensures.storage) (compared_all g.S.Store.contents g.S.Store.can_fail c.new-taken.result (base_nodes c.in_ok-try_clone.field-0 c.args.base) c.take_base.new.self c.in_ok-base_fault.ensures.taken)
    (walk_of g.S.Store.contents g.S.Store.can_fail c.take_base.new.self c.walk_past_faults.new.sink c.args.path.now (Nodes (g.S.Store.contents c.args.storage.now) c.args.version.now true c.args.path.now) c.in_ok-walked.ensures.takes) c.new-taken.ensures.new in
    let p = err_from_is_err_and c.from_residual-in_err-outcome.result c.from_residual-in_err-outcome.ensures.1 in
    rw (p.1, p.2) (subst (λ o. IfErr o (IsStoreError (g.S.Store.can_fail c.args.storage.now))) c.in_err-outcome.was (subst (λ x. IfErr c.walk_past_faults.new.sink.comparisons.outcome (IsStoreError (g.S.Store.can_fail x))) c.new-taken.ensures.storage told))

pub sort_faults-requires-clause-paths : goal.sort_faults-requires-clause-paths
sort_faults-requires-clause-paths g c =
    have_paths (g.S.Store.contents c.args.storage.now) c.args.version.now c.args.path.now _ c.in_ok-walked.ensures.faults c.in_ok-walked.ensures.faults_ascend c.as_str-valid.ensures.valid

pub sort_faults-requires-clause-apart : goal.sort_faults-requires-clause-apart
sort_faults-requires-clause-apart g c =
    have_apart (g.S.Store.contents c.args.storage.now) c.args.version.now c.args.path.now _ c.in_ok-walked.ensures.faults c.in_ok-walked.ensures.faults_ascend

pub returns-clause-surveyed : goal.returns-clause-surveyed
returns-clause-surveyed g c =
    let s = g.S.Store.contents c.args.storage.now in
    let v = c.args.version.now in
    let b = c.args.path.now in
    let w = c.in_ok-walked.ensures in
    let h = has_all g.S.Store.contents g.S.Store.can_fail c.new-taken.result.comparisons c.take_base.new.self.comparisons c.walk_past_faults.new.sink.comparisons (g.S.Store.contents c.args.storage.now) c.args.version.now c.args.path.now
    c.in_ok-try_clone.field-0 c.args.base c.in_ok-try_clone.ensures.ok (ap g.S.Store.contents c.new-taken.ensures.storage) (compared_all g.S.Store.contents g.S.Store.can_fail c.new-taken.result (base_nodes c.in_ok-try_clone.field-0 c.args.base) c.take_base.new.self c.in_ok-base_fault.ensures.taken)
    (walk_of g.S.Store.contents g.S.Store.can_fail c.take_base.new.self c.walk_past_faults.new.sink c.args.path.now (Nodes (g.S.Store.contents c.args.storage.now) c.args.version.now true c.args.path.now) c.in_ok-walked.ensures.takes) c.new-taken.ensures.new
    c.in_ok-outcome.was c.requires.base in
    let orphans = orphans_listed s v b c.in_ok-walked.walked.ignored.items c.in_ok-orphans.orphans.items w.ignored w.ignored_ascend
    (subst (λ ps. AreOrphansAmong s ps c.in_ok-orphans.orphans.items) c.deref-2.ensures.value c.in_ok-orphans.ensures.ok) in
    let told = lists_told g.S.Store.contents g.S.Store.can_fail c.new-taken.result c.take_base.new.self c.walk_past_faults.new.sink s v b
    c.in_ok-try_clone.field-0 c.args.base c.in_ok-try_clone.ensures.ok (ap g.S.Store.contents c.new-taken.ensures.storage) c.in_ok-base_fault.ensures.taken c.in_ok-walked.ensures.takes c.new-taken.ensures.none
    c.in_ok-outcome.was c.requires.base in
    let paths = lists_paths g.S.Store.contents g.S.Store.can_fail c.new-taken.result c.take_base.new.self c.walk_past_faults.new.sink s v b
    c.in_ok-try_clone.field-0 c.args.base c.in_ok-try_clone.ensures.ok (ap g.S.Store.contents c.new-taken.ensures.storage) c.in_ok-base_fault.ensures.taken c.in_ok-walked.ensures.takes c.new-taken.ensures.no_paths
    c.in_ok-outcome.was c.requires.base in
    record {
      path = c.in_ok-try_clone-2.ensures.ok;
      base = subst (IsBaseFault s v b) (sym c.in_ok-base_fault.ensures.fault) (base_faulted s v b c.args.base c.requires.base);
      nodes = nodes_counted s v b c.walk_past_faults.new.sink.comparisons h;
      ignored = w.ignored;
      ignored_ascend = w.ignored_ascend;
      orphans = orphans.0;
      orphans_ascend = orphans.1;
      bad_documents = subst (Lists (BadDocuments s v b)) (sym c.in_ok-bad_documents.ensures.documents) (lists_documents s v b _ w.faults w.faults_ascend);
      hidden = c.in_ok-hidden.ensures.ok;
      bad_names = subst (Lists (BadNames s v b)) (sym c.in_ok-bad_documents.ensures.names) (lists_names s v b _ w.faults w.faults_ascend);
      bad_names_ascend = subst PathsAscend (sym c.in_ok-bad_documents.ensures.names) (names_ascend _ w.faults_ascend);
      told = told.0;
      told_ascend = told.1;
      alike = alike_over (Contains c.walk_past_faults.new.sink.paths.items) (HasNodeAt s v b) c.in_ok-alike.alike.items paths.1
          (subst (λ ps. AreAlikeAmong (Contains ps) c.in_ok-alike.alike.items) c.deref-3.ensures.value c.in_ok-alike.ensures);
    }

pub returns-clause-findings : goal.returns-clause-findings
returns-clause-findings g c =
    let s = g.S.Store.contents c.args.storage.now in
    let v = c.args.version.now in
    let b = c.args.path.now in
    let w = c.in_ok-walked.ensures in
    let h = has_all g.S.Store.contents g.S.Store.can_fail c.new-taken.result.comparisons c.take_base.new.self.comparisons c.walk_past_faults.new.sink.comparisons (g.S.Store.contents c.args.storage.now) c.args.version.now c.args.path.now
    c.in_ok-try_clone.field-0 c.args.base c.in_ok-try_clone.ensures.ok (ap g.S.Store.contents c.new-taken.ensures.storage) (compared_all g.S.Store.contents g.S.Store.can_fail c.new-taken.result (base_nodes c.in_ok-try_clone.field-0 c.args.base) c.take_base.new.self c.in_ok-base_fault.ensures.taken)
    (walk_of g.S.Store.contents g.S.Store.can_fail c.take_base.new.self c.walk_past_faults.new.sink c.args.path.now (Nodes (g.S.Store.contents c.args.storage.now) c.args.version.now true c.args.path.now) c.in_ok-walked.ensures.takes) c.new-taken.ensures.new
    c.in_ok-outcome.was c.requires.base in
    let bad = c.in_ok-bad_documents.bad_documents in
    let taken = h.taken.taken in
    of_taken s v b h.all h.each bad (subst (Lists (BadDocuments s v b)) (sym c.in_ok-bad_documents.ensures.documents) (lists_documents s v b _ w.faults w.faults_ascend)) c.in_ok-findings.findings.items
    (of_ends h.all bad (HasNodeKey s) h.ascend c.walk_past_faults.new.sink.comparisons.blocks.items (blocks_of s h.all) c.in_ok-findings.findings.items taken.size taken.each (blocks_ascend s h.all h.ascend) c.in_ok-findings.ensures.ok)

pub alike_among-requires : goal.alike_among-requires
alike_among-requires g c = record {
  ascending = subst PathsAscend (sym c.deref-3.ensures.value)
      (lists_paths g.S.Store.contents g.S.Store.can_fail c.new-taken.result c.take_base.new.self c.walk_past_faults.new.sink (g.S.Store.contents c.args.storage.now) c.args.version.now c.args.path.now
      c.in_ok-try_clone.field-0 c.args.base c.in_ok-try_clone.ensures.ok (ap g.S.Store.contents c.new-taken.ensures.storage) c.in_ok-base_fault.ensures.taken c.in_ok-walked.ensures.takes c.new-taken.ensures.no_paths
      c.in_ok-outcome.was c.requires.base).0;
}
