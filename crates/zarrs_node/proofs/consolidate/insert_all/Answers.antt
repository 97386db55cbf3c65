use Rattle.std.proofs.Common.{◌∙◌}
use Rattle.zarrs_node.proofs.blocks.NodesInBlocks.{puts_start, puts_low, puts_turn, puts_end}
use Rattle.zarrs_node.proofs.walk.WalkPrefixes.{took_node, took_none}
use Rattle.zarrs_node.proofs.consolidate.insert_all.Goals as goal

pub text_beyond-requires : goal.text_beyond-requires
text_beyond-requires c = puts_low c.args.base.now c.loop-walk.invariant _ c.in-Some.node.now _ (took_node _ _ c.in-Some.node _ _ c.in_ok-_level.ensures c.in-Some.is)

pub loop-walk-init : goal.loop-walk-init
loop-walk-init c = puts_start c.args.base.now c.args.block.now _ _ c.in_ok-walk.ensures c.requires.below

pub loop-walk-preserved : goal.loop-walk-preserved
loop-walk-preserved c =
    puts_turn c.args.base.now c.loop-walk.invariant _ c.in-Some.node.now _ _ _ _ (took_node _ _ c.in-Some.node _ _ c.in_ok-_level.ensures c.in-Some.is) c.text_beyond.ensures.valid (c.in_ok-key.ensures.ok ∙ c.text_beyond.ensures.text) c.in_ok-metadata.ensures c.in_ok-insert.ensures.ok

pub returns-clause-inserted : goal.returns-clause-inserted
returns-clause-inserted c = (puts_end c.args.base.now c.loop-walk.invariant (took_none _ _ _ c.in_ok-_level.ensures c.in_default.is)).0

pub returns-clause-valid : goal.returns-clause-valid
returns-clause-valid c = (puts_end c.args.base.now c.loop-walk.invariant (took_none _ _ _ c.in_ok-_level.ensures c.in_default.is)).1
