use Rattle.std.proofs.Common.{◌∙◌, sym}
use Rattle.zarrs_examples.proofs.ConvertedNodes.{inserted_is, set_more, set_numbers, set_others}
use Rattle.zarrs_examples.proofs.converter.set_all.Goals as goal

pub loop-key-preserved : goal.loop-key-preserved
loop-key-preserved g c = (
  c.set.ensures.nature ∙ c.loop-key.invariant.0,
  inserted_is (g.S.Store.contents c.loop-key.storage) (g.S.Store.contents c.set.new.self) _ _ c.in_ok-set.ensures.ok c.set.ensures.numbers
      ∙ set_more c.others_are_kept.ensures _ _ c.loop-key.key-index _ c.loop-key.invariant.1 c.loop-key-item.result _ c.as_slice.ensures.value c.loop-key-item.is c.loop-key-test.true,
)

pub returns-in_err-set-clause-others : goal.returns-in_err-set-clause-others
returns-in_err-set-clause-others g c key far =
    c.in_err-set.ensures.others key (λ same. far c.loop-key-item.result (c.loop-key.key-index, c.loop-key-test.true, sym c.loop-key-item.is) (sym same))
    ∙ set_others c.others_are_kept.ensures _ _ c.loop-key.key-index _ c.loop-key.invariant.1 key far

pub returns-clause-others : goal.returns-clause-others
returns-clause-others g c key far = set_others c.others_are_kept.ensures _ _ c.loop-key.key-index _ c.loop-key.invariant.1 key far

pub returns-in_err-set-clause-numbers : goal.returns-in_err-set-clause-numbers
returns-in_err-set-clause-numbers g c = c.set.ensures.numbers ∙ set_numbers c.others_are_kept.ensures _ _ c.loop-key.key-index _ c.loop-key.invariant.1

pub returns-clause-numbers : goal.returns-clause-numbers
returns-clause-numbers g c = set_numbers c.others_are_kept.ensures _ _ c.loop-key.key-index _ c.loop-key.invariant.1
