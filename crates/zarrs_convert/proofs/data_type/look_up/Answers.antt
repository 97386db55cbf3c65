use Rattle.std.proofs.Common.{sym, ◌∙◌, arith}
use Rattle.zarrs_convert.proofs.Lookups.{hit, miss}
use Rattle.zarrs_convert.proofs.data_type.look_up.Goals as goal

pub returns-then-contains : goal.returns-then-contains
returns-then-contains c =
    let lines = c.args.lines.now in
    let i = c.loop-texts.texts-index in
    sym (hit lines i c.args.text.now c.contains.result (omega arith) c.contains.ensures.value c.if-contains.true) ∙ c.loop-texts.invariant

pub loop-texts-preserved : goal.loop-texts-preserved
loop-texts-preserved c =
    let lines = c.args.lines.now in
    let i = c.loop-texts.texts-index in
    sym (miss lines i c.args.text.now c.contains.result (omega arith) c.contains.ensures.value c.if-contains.false) ∙ c.loop-texts.invariant
