use Rattle.std.proofs.Common.{◌≤◌, ◌↔◌, drop}
use Rattle.serde_json.specs.Data.{items_depth, members_depth}
use Rattle.serde_json.specs.View.{items_view, members_view}
use Rattle.zarrs_form.proofs.nesting.+nests_within.Given as goal

abbrev pub invariant-items_nest_within-loop-item : goal.invariant-items_nest_within-loop-item
invariant-items_nest_within-loop-item l =
    (items_depth (items_view (drop l.item-index l.item-items)) ≤ l.levels) ↔ (items_depth (items_view l.items.items) ≤ l.levels)

abbrev pub invariant-members_nest_within-loop-name : goal.invariant-members_nest_within-loop-name
invariant-members_nest_within-loop-name l =
    (members_depth (members_view l._name-iterator) ≤ l.levels) ↔ (members_depth (members_view l.members.entries) ≤ l.levels)
