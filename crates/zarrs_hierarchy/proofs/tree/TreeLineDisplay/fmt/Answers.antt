use Rattle.std.proofs.Common.{◌*◌, replicate, refl, rules}
use Rattle.std.proofs.Output.{has_written_append, has_written_of_eq}
use Rattle.zarrs_node.proofs.TreeTexts.{deeper_indent}
use Rattle.zarrs_hierarchy.proofs.tree.TreeLineDisplay.fmt.Goals as goal

pub loop-level-preserved : goal.loop-level-preserved
loop-level-preserved g c = λ plain.
    has_written_of_eq _ _ _ _ _ (deeper_indent c.loop-level._level (replicate (2 * c.loop-level._level) 32) refl)
    (has_written_append _ _ _ _ _ _ (c.loop-level.invariant plain) (c.in_ok-write_str.ensures.writes (c.loop-level.invariant plain).plain (search rules)))
