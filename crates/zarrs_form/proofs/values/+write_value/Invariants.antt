use Rattle.std.proofs.Common.{◌≡◌, ◌++◌, drop, false, string_bytes}
use Rattle.serde_json.specs.View.{items_view, members_view}
use Rattle.serde_json.specs.Written.{items_have_float, members_have_float}
use Rattle.zarrs_form.specs.Layouts.{items_in, members_in}
use Rattle.zarrs_form.proofs.values.+write_value.Given as goal

-- what was written and what is left make the whole
abbrev pub invariant-write_items-loop-item : goal.invariant-write_items-loop-item
invariant-write_items-loop-item l =
    items_have_float (items_view l.items.items) ≡ false
    → (items_have_float (items_view (drop l.item-index l.item-items)) ≡ false)
    × (string_bytes l.out ++ items_in l.later l.layout (items_view (drop l.item-index l.item-items)) ≡ string_bytes l.initial.out ++ items_in false l.layout (items_view l.items.items))

-- what was written and what is left make the whole
abbrev pub invariant-write_map-loop-name : goal.invariant-write_map-loop-name
invariant-write_map-loop-name l =
    members_have_float (members_view l.members.entries) ≡ false
    → (members_have_float (members_view l.name-iterator) ≡ false)
    × (string_bytes l.out ++ members_in l.later l.layout (members_view l.name-iterator) ≡ string_bytes l.initial.out ++ members_in false l.layout (members_view l.members.entries))
