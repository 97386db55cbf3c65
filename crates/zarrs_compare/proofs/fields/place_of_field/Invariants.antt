use Rattle.std.proofs.Common.{◌≡◌, ◌≤◌, ◌-◌, drop, length}
use Rattle.zarrs_compare.specs.StepsOfSame.{besides_block}
use Rattle.zarrs_compare.proofs.fields.place_of_field.Given as goal

-- only blocks were passed
abbrev pub invariant-loop-place : goal.invariant-loop-place
invariant-loop-place g l = (l.place ≤ length l.fields) × (besides_block (drop l.place l.fields) ≡ besides_block (drop l.from l.fields))

abbrev pub decreases-loop-place : goal.decreases-loop-place
decreases-loop-place g l = length l.fields - l.place
