use Rattle.std.proofs.Common.{◌≡◌, drop}
use Rattle.serde_json.specs.View.{members_of}
use Rattle.zarrs_group.proofs.Fields.{first_unsupported}
use Rattle.zarrs_group.proofs.unsupported.least_unsupported.Given as goal

abbrev pub invariant-loop-entry : goal.invariant-loop-entry
invariant-loop-entry l = first_unsupported (members_of (drop l.entry-index l.entry-items)) ≡ first_unsupported l.fields
