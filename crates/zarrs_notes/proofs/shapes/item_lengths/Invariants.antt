use Rattle.std.proofs.Common.{◌≡◌, drop}
use Rattle.serde_json.specs.View.{items_view}
use Rattle.zarrs_form.specs.Forms.{each, number_u64}
use Rattle.zarrs_notes.specs.StepsOfFindings.{measure_of}
use Rattle.zarrs_notes.proofs.ItemSteps.{ahead}
use Rattle.zarrs_notes.proofs.shapes.item_lengths.Given as goal

-- what was counted and what is left come to the whole
abbrev pub invariant-loop-item : goal.invariant-loop-item
invariant-loop-item l = ahead l.item-index l.has_zero (each number_u64 (items_view (drop l.item-index l.items))) ≡ measure_of (each number_u64 (items_view l.items))
