use Rattle.std.proofs.Common.{◌≡◌, ◌∙◌, None, ap, sym, subst, map}
use Rattle.std.proofs.lemmas.Result.{IfOk-weaker}
use Rattle.zarrs_block.specs.Policy.{as_block}
use Rattle.zarrs_group.specs.StepsOfGroups.{edit_of}
use Rattle.zarrs_group.specs.StoringGroups.{AreEditsOf, store_changes, stored_fault_in}
use Rattle.zarrs_group.proofs.stored.edits_to_store.Goals as goal

pub returns-in-V3-default-clause-ok : goal.returns-in-V3-default-clause-ok
returns-in-V3-default-clause-ok c =
    let p = c.args.path.now in
    let b = as_block c.args.block.now in
    IfOk-weaker c.edits_to_store_v3.result _ (λ edits. AreEditsOf (store_changes p c.args.metadata b) (map edit_of edits.items))
    (λ edits h. subst (λ m. AreEditsOf (store_changes p m b) (map edit_of edits.items)) (sym c.in-V3-default.is-0) (h b)) c.edits_to_store_v3.ensures.ok

pub returns-in-V3-default-clause-plain : goal.returns-in-V3-default-clause-plain
returns-in-V3-default-clause-plain c =
    let p = c.args.path.now in
    let b = as_block c.args.block.now in
    IfOk-weaker c.edits_to_store_v3.result _ (λ _. stored_fault_in c.args.numbers p c.args.metadata b ≡ None) (λ _ h. ap (λ m. stored_fault_in c.args.numbers p m b) c.in-V3-default.is-0 ∙ h b) c.edits_to_store_v3.ensures.plain
