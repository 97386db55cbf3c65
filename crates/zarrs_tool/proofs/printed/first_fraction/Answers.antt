use Rattle.std.proofs.Common.{ap, sym, ◌∙◌}
use Rattle.zarrs_block.proofs.BlockLaws.{shown}
use Rattle.zarrs_tool.proofs.Fractions.{all_left, none_left, plain_passed, fraction_found}
use Rattle.zarrs_tool.proofs.printed.first_fraction.Goals as goal

pub loop-key-init : goal.loop-key-init
loop-key-init c =
    let all = c.into_iter-key-iterator.ensures.into_iter_gives ∙ c.iter-key-items.ensures.rest in
    all_left c.args.block.now c.into_iter-key-iterator.result (ap shown all ∙ c.as_map.ensures)

pub loop-key-preserved : goal.loop-key-preserved
loop-key-preserved c =
    let l = c.loop-key in
    plain_passed c.args.block.now l.key-iterator (c.in-Some.key.now, c.in-Some.node.now) c.next.new.self c.in-Some.ensures.steps l.invariant (sym c.is_plain.ensures ∙ c.if-not-is_plain.false)

pub returns-then-not-is_plain-clause-some : goal.returns-then-not-is_plain-clause-some
returns-then-not-is_plain-clause-some c =
    let l = c.loop-key in
    fraction_found c.args.block.now l.key-iterator (c.in-Some.key.now, c.in-Some.node.now) c.next.new.self c.in-Some.ensures.steps l.invariant _ c.as_str.ensures.value (sym c.is_plain.ensures ∙ c.if-not-is_plain.true)

pub returns-clause-none : goal.returns-clause-none
returns-clause-none c = none_left c.args.block.now c.loop-key.key-iterator c.in-None.ensures.steps.0 c.loop-key.invariant
