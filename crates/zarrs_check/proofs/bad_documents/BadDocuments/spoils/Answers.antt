use Rattle.std.proofs.Common.{◌<◌, ◌-◌, ◌∙◌, refl, ap, subst, arith, rules, get_or}
use Rattle.std.proofs.lemmas.Bool.{ltb-true}
use Rattle.std.proofs.lemmas.Fn.{always_returns_same}
use Rattle.zarrs_path.specs.Paths.{path_cmp}
use Rattle.zarrs_check.specs.Apart.{AreApart}
use Rattle.zarrs_check.proofs.PathSearch.{IsGap, spoilt_at, gap_missed, just_before, before_gap}
use Rattle.zarrs_check.proofs.bad_documents.BadDocuments.spoils.Goals as goal

pub returns-in-Ok : goal.returns-in-Ok
returns-in-Ok c =
    let facts = c.in-Ok.ensures in (
      λ t. spoilt_at c.deref.result.now c.args.self.now (c.deref.ensures.value ∙ c.self.view_is) c.args.path.now c.in-Ok._place facts.bound
          (facts.position (λ e. path_cmp e.0 c.args.path.now) (always_returns_same _ _ _ (λ a r h called. (search rules, search rules)))),
      λ s. refl,
    )

pub returns-then-gap-gt0 : goal.returns-then-gap-gt0
returns-then-gap-gt0 c =
    let facts = c.in-Err.ensures in
    let apart : AreApart c.args.self.now = subst AreApart c.self.view_is c.self.invariant in
    let at : IsGap c.args.self.now c.args.path.now c.in-Err.gap =
    gap_missed c.deref.result.now c.args.self.now (c.deref.ensures.value ∙ c.self.view_is) apart c.args.path.now c.in-Err.gap facts.bound
    (facts.position (λ e. path_cmp e.0 c.args.path.now) (always_returns_same _ _ _ (λ a r h called. (search rules, search rules)))) in
    let same = before_gap c.args.self.now apart c.args.path.now c.in-Err.gap at c.if-gap-gt0.true c.index.result.now
    (c.index.ensures ∙ ap (λ l. get_or l (c.in-Err.gap - 1) c.index.result.now) c.self.view_is) in
    (λ t. same.0 (c.is_below.ensures.below.0 t), λ s. c.is_below.ensures.below.1 (same.1 s))

pub returns-else-gap-gt0 : goal.returns-else-gap-gt0
returns-else-gap-gt0 c =
    let facts = c.in-Err.ensures in
    let apart : AreApart c.args.self.now = subst AreApart c.self.view_is c.self.invariant in
    let at : IsGap c.args.self.now c.args.path.now c.in-Err.gap =
    gap_missed c.deref.result.now c.args.self.now (c.deref.ensures.value ∙ c.self.view_is) apart c.args.path.now c.in-Err.gap facts.bound
    (facts.position (λ e. path_cmp e.0 c.args.path.now) (always_returns_same _ _ _ (λ a r h called. (search rules, search rules)))) in
    let first : 0 < c.in-Err.gap → ⊥ = omega arith in
    (λ t. absurd (first (ltb-true 0 c.in-Err.gap t)), λ s. absurd (first (just_before c.args.self.now apart c.args.path.now c.in-Err.gap at s).0))
