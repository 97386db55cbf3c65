use Rattle.std.proofs.Common.{◌≡◌, ◌↔◌, ◌||◌, ◌∙◌, ap, sym, subst, IsTrue, Contains}
use Rattle.zarrs_meaning.proofs.ListedKeys.{exists_by}
use Rattle.zarrs_meaning.proofs.exists.node_exists_listable.Goals as goal
use Rattle.zarrs_meaning.proofs.exists.node_exists_listable.Goals.{then-has_array, else-has_array, then-has_v3, else-has_v3}

pub returns-clause-ok : goal.returns-clause-ok
returns-clause-ok g c =
    let s = g.S.Store.contents c.args.storage.now in
    let a = c.holds-has_v3.result in
    let b = c.holds-has_array.result in
    let d = c.holds-has_group.result in
    let old : c.if-has_array.has_version_2 ≡ (b || d) = elim c.if-has_array.branch [
      | then-has_array w ↦ w.has_version_2-is ∙ w.if-has_array.true ∙ ap (λ x. x || d) (sym w.if-has_array.true)
      | else-has_array w ↦ w.has_version_2-is ∙ ap (λ x. x || d) (sym w.if-has_array.false)
    ] in
    let all : c.if-has_v3.result ≡ (a || (b || d)) = elim c.if-has_v3.branch [
      | then-has_v3 w ↦ w.result-is ∙ w.if-has_v3.true ∙ ap (λ x. x || (b || d)) (sym w.if-has_v3.true)
      | else-has_v3 w ↦ w.result-is ∙ old ∙ ap (λ x. x || (b || d)) (sym w.if-has_v3.false)
    ] in
    exists_by s c.args.path.now c.in_ok-to_prefix.field-0 c.in_ok-keys.field-0.keys.items c.in_ok-to_prefix.ensures.ok c.in_ok-keys.ensures.keys
    c.in_ok-v3.v3 c.in_ok-array.array c.in_ok-group.group c.in_ok-v3.ensures c.in_ok-array.ensures c.in_ok-group.ensures a b d
    (subst (λ keys. IsTrue a ↔ Contains keys c.in_ok-v3.v3) c.deref.ensures.value c.holds-has_v3.ensures)
    (subst (λ keys. IsTrue b ↔ Contains keys c.in_ok-array.array) c.deref-2.ensures.value c.holds-has_array.ensures)
    (subst (λ keys. IsTrue d ↔ Contains keys c.in_ok-group.group) c.deref-3.ensures.value c.holds-has_group.ensures)
    c.if-has_v3.result all
