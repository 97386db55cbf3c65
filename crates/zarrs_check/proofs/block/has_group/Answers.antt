use Rattle.std.proofs.Common.{◌∙◌, inr, ⊎_elim, sym, subst, true≢false, List, Contains}
use Rattle.zarrs_meaning.specs.Meaning.{Pair}
use Rattle.zarrs_check.proofs.block.has_group.Goals as goal

pub returns-else-is_base_group : goal.returns-else-is_base_group
returns-else-is_base_group c =
    let p = c.args.path.now in (
      λ t.
          let w = c.has_group_among.ensures.0 t in
          (w.0, inr (subst (λ (es : List Pair). Contains es (p, w.0)) c.deref.ensures.value w.1), w.2),
      λ g. ⊎_elim
          (λ base. absurd (true≢false (sym (c.is_base_group.ensures.1 (g.0, base, g.2)) ∙ c.if-is_base_group.false)))
          (λ in'. c.has_group_among.ensures.1 (g.0, subst (λ (es : List Pair). Contains es (p, g.0)) (sym c.deref.ensures.value) in', g.2))
          g.1,
    )
