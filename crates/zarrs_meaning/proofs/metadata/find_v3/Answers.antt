use Rattle.std.proofs.Common.{refl, ap, ◌∙◌, Ok, Err, Some, inl, inr, ⊎_elim}
use Rattle.std.proofs.lemmas.Result.{err_from_is_err_and}
use Rattle.zarrs_meaning.proofs.Meanings.{reading_refused, zarr_json_line_is}
use Rattle.zarrs_meaning.proofs.metadata.find_v3.Goals as goal

pub returns-in_err-metadata : goal.returns-in_err-metadata
returns-in_err-metadata g c =
    let s = g.S.Store.contents c.args.storage.now in
    let p = err_from_is_err_and c.from_residual.result c.from_residual.ensures.1 in
    rw (p.1, p.2) (⊎_elim inl (λ e. inr (zarr_json_line_is s _ _ refl (Err c.in_err-metadata.field-0.0) e)) (reading_refused _ _ _ c.in_err-metadata.ensures.err))

pub returns-in-Some-Node : goal.returns-in-Some-Node
returns-in-Some-Node g c =
    zarr_json_line_is (g.S.Store.contents c.args.storage.now) _ _ refl _ (c.in_ok-metadata.ensures.ok ∙ ap Ok (c.in-Some-Node.is ∙ ap Some c.in-Some-Node.field-0-is))

pub returns-in-Some-Version2 : goal.returns-in-Some-Version2
returns-in-Some-Version2 g c =
    inr (zarr_json_line_is (g.S.Store.contents c.args.storage.now) _ _ refl _ (c.in_ok-metadata.ensures.ok ∙ ap Ok (c.in-Some-Version2.is ∙ ap Some c.in-Some-Version2.field-0-is)))

pub returns-in-None : goal.returns-in-None
returns-in-None g c = zarr_json_line_is (g.S.Store.contents c.args.storage.now) _ _ refl _ (c.in_ok-metadata.ensures.ok ∙ ap Ok c.in-None.is)
