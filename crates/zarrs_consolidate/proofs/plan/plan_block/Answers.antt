use Rattle.std.proofs.Common.{◌≡◌, Err, rules, ap, ◌∙◌}
use Rattle.std.specs.FinMap as map
use Rattle.zarrs_consolidate.proofs.Plans.{document_refused}
use Rattle.zarrs_consolidate.proofs.plan.plan_block.Goals as goal

pub returns-in_err-new-clause-err : goal.returns-in_err-new-clause-err
returns-in_err-new-clause-err g c =
    let is : c.from_residual-in_err-new.result ≡ Err c.in_err-new.field-0.0 = search rules in
    document_refused (g.S.Store.can_fail c.args.storage.now) (g.S.Store.contents c.args.storage.now) c.args.task c.args.base.now c.in_ok-metadata.metadata c.in_ok-listed.listed c.in_ok-metadata.ensures.ok
    (record { exact = c.in_ok-listed.ensures.exact; ascending = c.in_ok-listed.ensures.ascending; clean = c.in_ok-listed.ensures.clean }) c.from_residual-in_err-new.result c.in_err-new.field-0.0 is c.in_err-new.ensures.err

pub returns-clause-ok : goal.returns-clause-ok
returns-clause-ok g c = record {
  group = c.in_ok-metadata.metadata;
  block = c.in_ok-listed.listed;
  means = c.in_ok-metadata.ensures.ok;
  listed = record { exact = c.in_ok-listed.ensures.exact; ascending = c.in_ok-listed.ensures.ascending; clean = c.in_ok-listed.ensures.clean };
  key = c.in_ok-key.ensures.key;
  name = c.in_ok-key.ensures.name;
  nodes = c.len-nodes.ensures;
  old = c.in_ok-old.ensures.ok ∙ ap (λ key. map.get (g.S.Store.contents c.args.storage.now).values key) c.in_ok-key.ensures.key;
  new = c.in_ok-new.ensures.ok;
}
