use Rattle.std.proofs.Common.{◌≡◌, ◌++◌, drop, false, string_bytes}
use Rattle.serde_json.specs.View.{members_view}
use Rattle.serde_json.specs.Written.{members_have_float}
use Rattle.zarrs_form.specs.Layouts.{members_in}
use Rattle.zarrs_form.proofs.values.write_left.Given as goal

-- what was written and what is left make the whole
abbrev pub invariant-loop-member : goal.invariant-loop-member
invariant-loop-member l =
    members_have_float (members_view l.members) ≡ false
    → (members_have_float (members_view (drop l.member-index l.members)) ≡ false)
    × (string_bytes l.out ++ members_in l.later l.layout (members_view (drop l.member-index l.members)) ≡ string_bytes l.initial.out ++ members_in l.fn.later l.layout (members_view l.members))
