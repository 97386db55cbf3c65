use Rattle.std.proofs.Common.{◌∙◌, rules}
use Rattle.zarrs_group.specs.StepsOfGroups.{edit_of}
use Rattle.zarrs_group.proofs.EditLemmas.{after-next, cut-next}
use Rattle.zarrs_group.proofs.edit.apply_all.Goals as goal

pub loop-edit-preserved : goal.loop-edit-preserved
loop-edit-preserved g c = (
  c.apply.ensures.nature ∙ c.loop-edit.invariant.0,
  c.in_ok-apply.ensures.ok ∙ after-next edit_of (g.S.Store.contents c.args.storage.now) c.args.edits.now c.loop-edit.edit-index c.edit-item.result c.edit-item.is c.loop-edit-test.true _ c.loop-edit.invariant.1,
)

pub returns-in_err-apply-clause-cut : goal.returns-in_err-apply-clause-cut
returns-in_err-apply-clause-cut g c =
    let cut = cut-next edit_of (g.S.Store.contents c.args.storage.now) c.args.edits.now c.loop-edit.edit-index c.edit-item.result c.edit-item.is c.loop-edit-test.true _ (g.S.Store.contents c.apply.new.storage) c.loop-edit.invariant.1 c.in_err-apply.ensures.others in
    search (rules, cut)
