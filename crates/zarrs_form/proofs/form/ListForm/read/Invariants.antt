use Rattle.std.proofs.Common.{◌≡◌, ◌++◌, option_map}
use Rattle.serde_json.specs.View.{items_view}
use Rattle.std.specs.Vec.Iter.{into_iter_items}
use Rattle.zarrs_form.specs.Forms.{each}
use Rattle.zarrs_form.proofs.form.ListForm.read.Given as goal

abbrev pub invariant-loop-item : goal.invariant-loop-item
invariant-loop-item g l =
    option_map (λ xs. l.all.items ++ xs) (each g.T.Form.form (items_view (into_iter_items l.item-iterator))) ≡ each g.T.Form.form (items_view (into_iter_items l.initial.item-iterator))
