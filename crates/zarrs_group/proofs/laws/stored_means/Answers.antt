use Rattle.std.proofs.Common.{◌≡◌, None, subst, map}
use Rattle.zarrs_fault.specs.declared.numbers.Numbers.TheVariants.{Whole}
use Rattle.zarrs_group.specs.Plain.{group_fault_in}
use Rattle.zarrs_group.specs.StepsOfGroups.{edit_of}
use Rattle.zarrs_group.specs.StoringGroups.{AreEditsOf, store_changes}
use Rattle.zarrs_group.proofs.MeaningLaws.{stored_means}
use Rattle.zarrs_group.proofs.StoreLemmas.{own_plain}
use Rattle.zarrs_group.proofs.laws.stored_means.Goals as goal

pub returns-clause-ok : goal.returns-clause-ok
returns-clause-ok c =
    let p = c.args.path.now in
    let es = map edit_of c.in_ok-edits.edits.items in
    let plain : group_fault_in Whole c.args.metadata.now ≡ None = subst (λ x. group_fault_in Whole x ≡ None) c.in_ok-copy.ensures (own_plain Whole p c.in_ok-copy.copy None c.in_ok-edits.ensures.plain) in
    let are : AreEditsOf (store_changes p c.args.metadata.now None) es = subst (λ x. AreEditsOf (store_changes p x None) es) c.in_ok-copy.ensures c.in_ok-edits.ensures.ok in
    stored_means p c.args.metadata.now es plain are
