use Rattle.std.proofs.Common.{◌≡◌, take, map}
use Rattle.serde_json.specs.View.{view}
use Rattle.zarrs_form.proofs.form.ListForm.to_value.Given as goal

abbrev pub invariant-loop-item : goal.invariant-loop-item
invariant-loop-item g l = map view l.items.items ≡ map g.T.Form.written (take l.item-index l.item-items)
