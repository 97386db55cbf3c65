use Rattle.std.proofs.Common.{refl, ap, ◌∙◌, Ok, inl, inr, ⊎_elim}
use Rattle.std.proofs.lemmas.Result.{err_from_is_err_and}
use Rattle.zarrs_meaning.specs.DocumentsAtKeys.{attributes_at}
use Rattle.zarrs_meaning.proofs.Meanings.{reading_refused, none_of, zgroup_line_is}
use Rattle.zarrs_meaning.proofs.metadata.find_group_v2.Goals as goal
use Rattle.zarrs_meaning.proofs.metadata.find_group_v2.Goals.{in-Some-2, in_default-2}

pub returns-in_err-found : goal.returns-in_err-found
returns-in_err-found g c =
    let s = g.S.Store.contents c.args.storage.now in
    let p = err_from_is_err_and c.from_residual.result c.from_residual.ensures.1 in
    rw (p.1, p.2) (⊎_elim inl (λ e. inr (zgroup_line_is s c.args.prefix.now _ refl _ e (attributes_at s c.args.prefix.now) refl)) (reading_refused _ _ _ c.in_err-found.ensures.err))

pub returns-in_default : goal.returns-in_default
returns-in_default g c =
    let s = g.S.Store.contents c.args.storage.now in
    zgroup_line_is s c.args.prefix.now _ refl _ (c.in_ok-found.ensures.ok ∙ ap Ok (none_of c.in_ok-found.found c.in_default.not-Some)) (attributes_at s c.args.prefix.now) refl

pub returns-in_err-document : goal.returns-in_err-document
returns-in_err-document g c =
    let s = g.S.Store.contents c.args.storage.now in
    let p = err_from_is_err_and c.from_residual-in_err-document.result c.from_residual-in_err-document.ensures.1 in
    rw (p.1, p.2) (⊎_elim inl (λ e. inr (zgroup_line_is s c.args.prefix.now _ refl _ (c.in_ok-found.ensures.ok ∙ ap Ok c.in-Some.is) _ e)) (reading_refused _ _ _ c.in_err-document.ensures.err))

pub returns : goal.returns
returns g c =
    let s = g.S.Store.contents c.args.storage.now in
    elim c.match-branch-3.branch [
      | in-Some-2 w ↦ rw w.group-is (zgroup_line_is s c.args.prefix.now _ refl _ (c.in_ok-found.ensures.ok ∙ ap Ok c.in-Some.is) _ (c.in_ok-document.ensures.ok ∙ ap Ok w.in-Some-2.is))
      | in_default-2 w ↦ rw w.group-is (zgroup_line_is s c.args.prefix.now _ refl _ (c.in_ok-found.ensures.ok ∙ ap Ok c.in-Some.is) _ (c.in_ok-document.ensures.ok ∙ ap Ok (none_of c.in_ok-document.field-0 w.in_default-2.not-Some)))
    ]
