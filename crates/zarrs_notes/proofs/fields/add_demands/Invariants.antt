use Rattle.std.proofs.Common.{◌≡◌, ◌++◌, drop}
use Rattle.serde_json.specs.View.{members_of}
use Rattle.zarrs_notes.specs.StepsOfFindings.{field_findings}
use Rattle.zarrs_notes.proofs.fields.add_demands.Given as goal

-- what was told and what there is to tell of the fields that are left make the whole
abbrev pub invariant-loop-field : goal.invariant-loop-field
invariant-loop-field l = l.found.items ++ field_findings l.path (members_of (drop l.field-index l.field-items)) ≡ l.fn.found.items ++ field_findings l.path l.fields
