use Rattle.std.proofs.Common.{[], ap, sym, ◌∙◌, arith, drop}
use Rattle.std.proofs.lemmas.List.{drop_all}
use Rattle.zarrs_compare.specs.StepsOfSame.{besides_block, same_entry, same_list}
use Rattle.zarrs_compare.proofs.SameSteps.{nothing_left}
use Rattle.zarrs_compare.proofs.fields.is_same_besides_block.Goals as goal

pub returns : goal.returns
returns g c =
    let same = same_entry g.T.Same.same in
    let fields = c.args.fields.now in
    let others = c.args.others.now in
    let left = besides_block (drop c.loop-field.place others) in
    nothing_left same others c.place_of_field.result c.place_of_field.ensures.within c.place_of_field.ensures.field
    ∙ ap (same_list same (besides_block [])) c.place_of_field.ensures.passed
    ∙ ap (λ fs. same_list same (besides_block fs) left) (sym (drop_all c.loop-field.field-index fields (omega arith)))
    ∙ c.loop-field.invariant.1
