use Rattle.std.proofs.Common.{◌≡◌, take}
use Rattle.serde_json.specs.View.{members_of, members_view}
use Rattle.zarrs_form.proofs.fields.AdditionalFieldsV3.to_members.Given as goal

abbrev pub invariant-loop-entry : goal.invariant-loop-entry
invariant-loop-entry l = members_view l.members.entries ≡ members_of (take l.entry-index l.entry-items)
