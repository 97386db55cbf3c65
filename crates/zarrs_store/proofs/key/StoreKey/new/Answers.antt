use Rattle.std.proofs.Common.{sym, ◌∙◌, subst}
use Rattle.zarrs_store.specs.Segments.{IsKeyText}
use Rattle.zarrs_store.proofs.Cuts.{key_from_text}
use Rattle.zarrs_store.proofs.key.StoreKey.new.Goals as goal

pub returns-then-not-validate-clause-err : goal.returns-then-not-validate-clause-err
returns-then-not-validate-clause-err c = (
  c.in_ok-copy.ensures.ok,
  λ k. let passes = c.validate.ensures.1 k in let fails = c.if-not-validate.true in cc,
)

pub invariant_of-result : goal.invariant_of-result
invariant_of-result c = subst IsKeyText (sym c.in_ok-copy.ensures.ok) (c.validate.ensures.0 c.if-not-validate.false)

pub returns-clause-text : goal.returns-clause-text
returns-clause-text c = (key_from_text _ (invariant_of-result c)).1 ∙ c.in_ok-copy.ensures.ok

pub returns-clause-valid : goal.returns-clause-valid
returns-clause-valid c = (key_from_text _ (invariant_of-result c)).0
