use Rattle.std.proofs.Common.{◌≡◌, drop}
use Rattle.serde_json.specs.View.{members_view}
use Rattle.serde_json.specs.Written.{members_have_float}
use Rattle.zarrs_form.proofs.shapes.Object.has_float.Given as goal

abbrev pub invariant-loop-entry : goal.invariant-loop-entry
invariant-loop-entry l = members_have_float (members_view (drop l.entry-index l.entry-items)) ≡ members_have_float (members_view l.entry-items)
