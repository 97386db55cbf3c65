use Rattle.std.proofs.Common.{◌≡◌, sym, subst, ◌∙◌, ◌⊎◌, inl, inr, ⊎_elim, Bool, Option, Result, Ok, Err, IfOk, IfErr, true≢false}
use Rattle.zarrs_path.specs.Paths.{Path, IsPath}
use Rattle.zarrs_meta.specs.declared.node.NodeMetadata.{NodeMetadata}
use Rattle.zarrs_meaning.specs.declared.node_create_error.NodeCreateError.{NodeCreateError}
use Rattle.zarrs_meaning.specs.Meaning.{Meaning, bad}
use Rattle.zarrs_meaning.specs.Refusals.{IsExcused, IsInvalidPath}
use Rattle.zarrs_meaning.specs.Refusals.{Finds}
use Rattle.zarrs_node.proofs.walk.WalkTurns.{path_if_name, name_if_path}
use Rattle.zarrs_node.proofs.descent.read_child.Goals as goal

-- what holds of all answers holds where it is one
always : {A E : Type 0} (P : Type 0) (r : Result A E) → P → IfOk r (λ _. P)
always P (Ok x) h = h
always P (Err e) h = tt

-- a refusal at a path is excused, or is what the path means
by_meaning : (can_fail : Bool) (p : Path) (of : Meaning) (r : Result (Option NodeMetadata) NodeCreateError) → IsPath p → Finds can_fail r of
    → IfErr r (λ e. IsExcused can_fail e ⊎ (IsInvalidPath p e × (IsPath p → ⊥)) ⊎ (IsPath p × (of ≡ bad e)))
by_meaning can_fail p of (Ok x) valid h = tt
by_meaning can_fail p of (Err e) valid h = ⊎_elim inl (λ is. inr (inr (valid, is))) h

pub returns-then-not-ends_in_name-clause-refused : goal.returns-then-not-ends_in_name-clause-refused
returns-then-not-ends_in_name-clause-refused g c =
    inr (inl (
      subst (λ q. IsInvalidPath q c.in_ok-invalid_child.field-0) c.in_ok-try_clone.ensures c.in_ok-invalid_child.ensures,
      λ path. true≢false (sym (c.ends_in_name.ensures.1 (name_if_path c.args.prefix.now c.requires.above path)) ∙ c.if-not-ends_in_name.true),
    ))

pub returns-clause-valid : goal.returns-clause-valid
returns-clause-valid g c =
    always (IsPath c.args.prefix.now) c.find_metadata.result (path_if_name c.args.prefix.now c.requires.above (c.ends_in_name.ensures.0 c.if-not-ends_in_name.false))

pub returns-clause-refused : goal.returns-clause-refused
returns-clause-refused g c =
    by_meaning (g.S.Store.can_fail c.args.storage.now) c.args.prefix.now _ c.find_metadata.result
    (path_if_name c.args.prefix.now c.requires.above (c.ends_in_name.ensures.0 c.if-not-ends_in_name.false)) c.find_metadata.ensures.found
