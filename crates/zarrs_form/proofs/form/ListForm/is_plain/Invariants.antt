use Rattle.std.proofs.Common.{◌≡◌, drop}
use Rattle.std.specs.List.{list_all}
use Rattle.zarrs_form.proofs.form.ListForm.is_plain.Given as goal

abbrev pub invariant-loop-item : goal.invariant-loop-item
invariant-loop-item g l = list_all g.T.Form.fits (drop l.item-index l.item-items) ≡ list_all g.T.Form.fits l.item-items
