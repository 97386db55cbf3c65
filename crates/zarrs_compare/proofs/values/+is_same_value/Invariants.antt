use Rattle.std.proofs.Common.{◌≡◌, drop}
use Rattle.serde_json.specs.View.{items_view, members_view}
use Rattle.std.specs.Slice.Iter.{iter_rest}
use Rattle.zarrs_compare.specs.StepsOfSame.{same_items, same_members}
use Rattle.zarrs_compare.proofs.values.+is_same_value.Given as goal

-- the items that are left are the same where all are
abbrev pub invariant-is_same_items-loop-item : goal.invariant-is_same_items-loop-item
invariant-is_same_items-loop-item l =
    same_items (items_view (drop l.item-index l.item-items)) (items_view (iter_rest l.others)) ≡ same_items (items_view l.first.items) (items_view l.second.items)

-- the members that are left are the same where all are
abbrev pub invariant-is_same_members-loop-name : goal.invariant-is_same_members-loop-name
invariant-is_same_members-loop-name l =
    same_members (members_view l.name-iterator) (members_view l.others) ≡ same_members (members_view l.first.entries) (members_view l.second.entries)
