use Rattle.std.proofs.Common.{◌≡◌, ◌∙◌, sym, true, true≢false, ⊎_elim}
use Rattle.zarrs_path.specs.Paths.{path_eq}
use Rattle.zarrs_path.specs.PathOrder.{path_decides}
use Rattle.zarrs_check.proofs.Above.{up_cases, at_itself, at_or_above}
use Rattle.zarrs_check.proofs.comparison.is_at_or_above.Goals as goal

pub returns-then-eq : goal.returns-then-eq
returns-then-eq c =
    let same : path_eq c.args.other.now c.args.path.now ≡ true = sym c.eq.ensures ∙ c.if-eq.true in
    (λ t. at_itself c.args.path.now c.args.other.now ((path_decides c.args.other.now c.args.path.now).0 same), λ h. c.if-eq.true)

pub returns-else-eq : goal.returns-else-eq
returns-else-eq c = (
  λ t. at_or_above c.args.path.now c.args.other.now (c.is_below.ensures.below.0 t),
  λ h. ⊎_elim
      (λ same. absurd (true≢false (sym ((path_decides c.args.other.now c.args.path.now).1 same) ∙ sym c.eq.ensures ∙ c.if-eq.false)))
      (λ low. c.is_below.ensures.below.1 low)
      (up_cases c.args.path.now c.args.other.now h),
)
