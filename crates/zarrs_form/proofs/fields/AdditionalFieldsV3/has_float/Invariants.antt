use Rattle.std.proofs.Common.{◌≡◌, drop}
use Rattle.serde_json.specs.View.{members_of}
use Rattle.serde_json.specs.Written.{members_have_float}
use Rattle.zarrs_form.proofs.fields.AdditionalFieldsV3.has_float.Given as goal

abbrev pub invariant-loop-entry : goal.invariant-loop-entry
invariant-loop-entry l = members_have_float (members_of (drop l.entry-index l.entry-items)) ≡ members_have_float (members_of l.entry-items)
