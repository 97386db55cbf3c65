use Rattle.std.proofs.Common.{◌≡◌, drop}
use Rattle.serde_json.specs.Written as written
use Rattle.serde_json.specs.View.{items_view, members_view}
use Rattle.zarrs_form.proofs.members.+has_float.Given as goal

abbrev pub invariant-items_have_float-loop-item : goal.invariant-items_have_float-loop-item
invariant-items_have_float-loop-item l =
    written.items_have_float (items_view (drop l.item-index l.item-items)) ≡ written.items_have_float (items_view l.items.items)

abbrev pub invariant-members_have_float-loop-name : goal.invariant-members_have_float-loop-name
invariant-members_have_float-loop-name l =
    (written.members_have_float (members_view l._name-iterator) ≡ written.members_have_float (members_view l.members.entries))
