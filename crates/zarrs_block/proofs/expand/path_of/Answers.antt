use Rattle.std.proofs.Common.{inl, inr, sym, ◌∙◌}
use Rattle.std.proofs.lemmas.Slice.Eq.{bytes_eq-Decides}
use Rattle.zarrs_block.proofs.CoveredKeys.{own_key, empty_text}
use Rattle.zarrs_block.proofs.KeyLaws.{valid_joined}
use Rattle.zarrs_block.proofs.expand.path_of.Goals.{then-is_empty-via-then-is_empty, then-is_empty-via-else-is_empty+then-eq}
use Rattle.zarrs_block.proofs.expand.path_of.Goals as goal

pub returns-then-is_empty-clause-valid : goal.returns-then-is_empty-clause-valid
returns-then-is_empty-clause-valid c =
    let t = c.args.key.now in
    elim c.then-is_empty.branch [
      | then-is_empty-via-then-is_empty w ↦ own_key t (inl (empty_text t (sym c.is_empty.ensures ∙ w.if-is_empty.true)))
      | then-is_empty-via-else-is_empty+then-eq w ↦ own_key t (inr ((bytes_eq-Decides t _).0 (sym w.eq.ensures ∙ w.if-eq.true)))
    ]

pub returns-in-Some-clause-valid : goal.returns-in-Some-clause-valid
returns-in-Some-clause-valid c = valid_joined c.args.base.now c.in_ok-path.path c.args.key.now c.in_ok-path.ensures.ok c.in_ok-path.ensures.valid

pub returns-in-None-clause-valid : goal.returns-in-None-clause-valid
returns-in-None-clause-valid c = valid_joined c.args.base.now c.in_ok-path.path c.args.key.now c.in_ok-path.ensures.ok c.in_ok-path.ensures.valid
