-- The search among the additional fields, which stand in ascending order of their names.
use Rattle.std.specs.Prelude.{Option, Some, None, if◌then◌else◌}
use Rattle.serde_json.specs.Data.{Members, no_members, member}
use Rattle.zarrs_form.specs.Fields.{must_understand}
use Rattle.zarrs_group.specs.UnsupportedFields.{UnsupportedField}

-- the first field that must be understood
abbrev pub first_unsupported : Members → Option UnsupportedField
first_unsupported no_members = None
first_unsupported (member k d ms) = if must_understand d then Some (record { name = k; value = d }) else first_unsupported ms
