use Rattle.std.proofs.Common.{◌∙◌, sym}
use Rattle.zarrs_group.proofs.BlockPlain.{pass_plain, pass_other}
use Rattle.zarrs_group.proofs.plain.block_fault.Goals as goal
use Rattle.zarrs_group.proofs.plain.block_fault.Goals.{then-is_plain-via-then-is_plain, then-is_plain-via-else-is_plain+then-not-is_entry}

pub loop-key-preserved-then-is_plain : goal.loop-key-preserved-then-is_plain
loop-key-preserved-then-is_plain c =
    let l = c.loop-key in
    elim c.then-is_plain.branch [
      | then-is_plain-via-then-is_plain w ↦
          pass_plain c.args.numbers c.args.block.now.metadata l.clash l.key-iterator (c.in-Some.key.now, c.in-Some.node.now) c.next.new.self c.in-Some.ensures.steps (sym c.is_plain.ensures ∙ w.if-is_plain.true) l.invariant
      | then-is_plain-via-else-is_plain+then-not-is_entry w ↦
          pass_other c.args.numbers c.args.block.now.metadata l.clash l.key-iterator (c.in-Some.key.now, c.in-Some.node.now) c.next.new.self w.as_str.result.now c.in-Some.ensures.steps w.as_str.ensures.value
          (sym w.is_entry.ensures ∙ w.if-not-is_entry.true) l.invariant
    ]
