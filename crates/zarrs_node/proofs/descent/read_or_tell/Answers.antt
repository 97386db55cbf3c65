use Rattle.std.proofs.Common.{◌∙◌, sym, ap, inl, [], ◌∷◌, ◌++◌}
use Rattle.std.proofs.lemmas.Result.{err_from_is_err_and}
use Rattle.zarrs_node.proofs.walk.ChildRefusals.{told_of, sorted_excused}
use Rattle.zarrs_node.proofs.descent.read_or_tell.Goals as goal

pub returns-in_err-fault-in-Err-clause-refused : goal.returns-in_err-fault-in-Err-clause-refused
returns-in_err-fault-in-Err-clause-refused g c =
    let p = err_from_is_err_and c.from_residual.result c.from_residual.ensures.1 in
    rw (p.1, p.2) (inl (sorted_excused (g.S.Store.can_fail c.args.storage.now) (g.S.Store.contents c.args.storage.now) c.args.version.now c.args.prefix.now c.in-Err.refusal c.in_err-fault-in-Err.field-0.0
    (sym c.in_err-fault-in-Err.ensures) c.in-Err.ensures.refused))

pub returns-in_ok-push-in-Err-clause-read : goal.returns-in_ok-push-in-Err-clause-read
returns-in_ok-push-in-Err-clause-read g c =
    let k = c.in_ok-fault-in-Err.fault in (
      k,
      told_of (g.S.Store.can_fail c.args.storage.now) (g.S.Store.contents c.args.storage.now) c.args.version.now c.args.prefix.now c.in-Err.refusal k (sym c.in_ok-fault-in-Err.ensures) c.in-Err.ensures.refused,
      c.in_ok-push-in-Err.ensures.items ∙ ap (λ q. c.args.notes.now.faults.items ++ (q, k) ∷ []) c.in_ok-try_clone-in-Err.ensures,
    )
