use Rattle.std.proofs.Common.{◌≡◌, ◌++◌, drop, false, string_bytes}
use Rattle.serde_json.specs.Data.{put, string}
use Rattle.serde_json.specs.View.{members_view}
use Rattle.serde_json.specs.Written.{members_have_float}
use Rattle.zarrs_form.specs.Layouts.{members_in}
use Rattle.zarrs_form.proofs.values.write_members_with.Given as goal

-- what was written and what is left with the text make the whole
abbrev pub invariant-loop-place : goal.invariant-loop-place
invariant-loop-place l =
    let all = put l.name (string l.text) (members_view l.members) in
    let left = put l.name (string l.text) (members_view (drop l.place l.members)) in
    members_have_float all ≡ false
    → (members_have_float left ≡ false)
    × (string_bytes l.out ++ members_in l.later l.layout left ≡ string_bytes l.initial.out ++ members_in false l.layout all)
