use Rattle.std.proofs.Common.{◌≡◌, ◌++◌, false, string_bytes}
use Rattle.serde_json.specs.Written.{members_have_float}
use Rattle.zarrs_form.specs.StepsOfTexts.{entries_text}
use Rattle.zarrs_block.specs.Block.{documents}
use Rattle.zarrs_block.proofs.BlockLaws.{shown}
use Rattle.zarrs_block.proofs.pretty.write_nodes.Given as goal

-- what was written and what is left make the whole
abbrev pub invariant-loop-key : goal.invariant-loop-key
invariant-loop-key l =
    members_have_float (documents l.nodes) ≡ false
    → (members_have_float (documents (shown l.key-iterator)) ≡ false)
    × (string_bytes l.out ++ entries_text l.later (documents (shown l.key-iterator)) ≡ string_bytes l.initial.out ++ entries_text false (documents l.nodes))
