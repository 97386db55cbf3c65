use Rattle.std.proofs.Common.{◌≡◌, ◌++◌, drop, map, false, string_bytes}
use Rattle.serde_json.specs.View.{items_of}
use Rattle.serde_json.specs.Written.{items_have_float}
use Rattle.zarrs_form.specs.Layouts.{items_in}
use Rattle.zarrs_form.proofs.form.ListForm.write.Given as goal

-- what was written and what is left make the whole
abbrev pub invariant-loop-item : goal.invariant-loop-item
invariant-loop-item g l =
    items_have_float (items_of (map g.T.Form.written l.item-items)) ≡ false
    → (items_have_float (items_of (map g.T.Form.written (drop l.item-index l.item-items))) ≡ false)
    × (string_bytes l.out ++ items_in l.later l.layout (items_of (map g.T.Form.written (drop l.item-index l.item-items)))
    ≡ string_bytes l.initial.out ++ items_in false l.layout (items_of (map g.T.Form.written l.item-items)))
