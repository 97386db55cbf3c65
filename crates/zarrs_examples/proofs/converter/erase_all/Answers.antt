use Rattle.std.proofs.Common.{◌∙◌, sym, subst, Contains}
use Rattle.zarrs_examples.proofs.ConvertedNodes.{removed_is, erase_more, erase_numbers, erase_others}
use Rattle.zarrs_examples.proofs.converter.erase_all.Goals as goal

pub loop-key-preserved : goal.loop-key-preserved
loop-key-preserved g c = (
  c.erase.ensures.nature ∙ c.loop-key.invariant.0,
  removed_is (g.S.Store.contents c.loop-key.storage) (g.S.Store.contents c.erase.new.self) _ c.in_ok-erase.ensures.ok c.erase.ensures.numbers
      ∙ erase_more c.others_are_kept.ensures _ _ c.loop-key.key-index _ c.loop-key.invariant.1 c.key-item.result c.key-item.is c.loop-key-test.true,
)

pub returns-in_err-erase-clause-others : goal.returns-in_err-erase-clause-others
returns-in_err-erase-clause-others g c key far =
    c.in_err-erase.ensures.others key (λ same. far (subst (Contains c.args.keys.now) (sym same) (c.loop-key.key-index, c.loop-key-test.true, sym c.key-item.is)))
    ∙ erase_others c.others_are_kept.ensures _ _ c.loop-key.key-index _ c.loop-key.invariant.1 key far

pub returns-clause-others : goal.returns-clause-others
returns-clause-others g c key far = erase_others c.others_are_kept.ensures _ _ c.loop-key.key-index _ c.loop-key.invariant.1 key far

pub returns-in_err-erase-clause-numbers : goal.returns-in_err-erase-clause-numbers
returns-in_err-erase-clause-numbers g c = c.erase.ensures.numbers ∙ erase_numbers c.others_are_kept.ensures _ _ c.loop-key.key-index _ c.loop-key.invariant.1

pub returns-clause-numbers : goal.returns-clause-numbers
returns-clause-numbers g c = erase_numbers c.others_are_kept.ensures _ _ c.loop-key.key-index _ c.loop-key.invariant.1
