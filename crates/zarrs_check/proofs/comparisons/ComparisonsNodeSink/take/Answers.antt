use Rattle.std.proofs.Common.{sym, subst, ◌∙◌}
use Rattle.std.specs.Prelude.{IfErr}
use Rattle.zarrs_store.specs.Faults.{IsStoreError}
use Rattle.zarrs_check.proofs.comparisons.ComparisonsNodeSink.take.Goals as goal

pub returns-in-Ok : goal.returns-in-Ok
returns-in-Ok g c = record {
  storage = c.take_node.ensures.storage;
  taken = λ ok. (sym c.take_node.ensures.outcome ∙ ok, c.in-Ok.ensures.ok);
  fault = λ h. subst (λ o. IfErr o (IsStoreError (g.S.Store.can_fail c.args.self.now.storage.now))) (sym c.take_node.ensures.outcome) h;
}
