use Rattle.std.proofs.Common.{sym, ◌∙◌, subst}
use Rattle.zarrs_store.specs.Segments.{IsPrefixText}
use Rattle.zarrs_store.proofs.Cuts.{prefix_from_text}
use Rattle.zarrs_store.proofs.prefix.StorePrefix.new.Goals as goal

pub returns-then-not-validate-clause-err : goal.returns-then-not-validate-clause-err
returns-then-not-validate-clause-err c = (
  c.in_ok-copy.ensures.ok,
  λ k. let passes = c.validate.ensures.1 k in let fails = c.if-not-validate.true in cc,
)

pub invariant_of-result : goal.invariant_of-result
invariant_of-result c = subst IsPrefixText (sym c.in_ok-copy.ensures.ok) (c.validate.ensures.0 c.if-not-validate.false)

pub returns-clause-text : goal.returns-clause-text
returns-clause-text c = (prefix_from_text _ (invariant_of-result c)).1 ∙ c.in_ok-copy.ensures.ok

pub returns-clause-valid : goal.returns-clause-valid
returns-clause-valid c = (prefix_from_text _ (invariant_of-result c)).0
