use Rattle.std.proofs.Common.{◌≡◌, ◌≤◌, drop, length}
use Rattle.zarrs_compare.specs.StepsOfSame.{besides_block, same_entry, same_list}
use Rattle.zarrs_compare.proofs.fields.is_same_besides_block.Given as goal

-- the fields that are left are the same where all are
abbrev pub invariant-loop-field : goal.invariant-loop-field
invariant-loop-field g l =
    let same = same_entry g.T.Same.same in
    (l.place ≤ length l.others)
    × (same_list same (besides_block (drop l.field-index l.fields)) (besides_block (drop l.place l.others))
    ≡ same_list same (besides_block l.fields) (besides_block l.others))
