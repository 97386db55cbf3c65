-- The bad keys among findings, taken out of a block one after another.
use Rattle.std.proofs.Common.{◌≡◌, ◌≢◌, ◌↔◌, inl, inr, ⊎_elim, ℕ, List, [], ◌∷◌, Some, None, sym, ap, subst, ◌∙◌}
use Rattle.zarrs_meta.specs.declared.node.NodeMetadata.{NodeMetadata}
use Rattle.zarrs_block.specs.Block.{Block, node_at_key}
use Rattle.zarrs_check.specs.StepsOfComparing.{IsBadAmong, IsRidOf}
use Rattle.zarrs_check.specs.declared.finding.Finding.{Finding}
use Rattle.zarrs_check.specs.declared.finding.FindingKind.{FindingKind}
use Rattle.zarrs_check.specs.declared.finding.FindingKind.TheVariants.{BadKey}

-- those of the findings that are left are still to be taken out of the block
abbrev pub IsLeft : List Finding → Block → List Finding → Block → Type 0
IsLeft all B left now = (t : List ℕ) (m : NodeMetadata) → ((IsBadAmong left t → ⊥) × (node_at_key now t ≡ Some m)) ↔ ((IsBadAmong all t → ⊥) × (node_at_key B t ≡ Some m))

-- an entry is none or there
none_some : (m : NodeMetadata) → None ≡ Some m → ⊥
none_some m e = cc

module _ (all : List Finding) (B : Block) where
  -- at first all are left
  pub rid_start : (left : List Finding) → left ≡ all → IsLeft all B left B
  rid_start left is t m = subst (λ xs. ((IsBadAmong xs t → ⊥) × (node_at_key B t ≡ Some m)) ↔ ((IsBadAmong all t → ⊥) × (node_at_key B t ≡ Some m))) (sym is) (λ h. h, λ h. h)

  module _ (left rest : List Finding) (f : Finding) (is : left ≡ f ∷ rest) (now : Block) (h : IsLeft all B left now) where
    -- a finding of another kind is passed over
    pub rid_other : ((t : List ℕ) → f.kind ≡ BadKey t → ⊥) → IsLeft all B rest now
    rid_other other t m = (
      λ g. (h t m).0 (λ among. ⊎_elim (other t) g.0 (subst (λ xs. IsBadAmong xs t) is among), g.1),
      λ g. let w = (h t m).1 g in (λ among. w.0 (subst (λ xs. IsBadAmong xs t) (sym is) (inr among)), w.1),
    )

    -- the key of a bad one is taken out
    pub rid_key : (k : List ℕ) (new : Block) → f.kind ≡ BadKey k → node_at_key new k ≡ None → ((t : List ℕ) → t ≢ k → node_at_key new t ≡ node_at_key now t) → IsLeft all B rest new
    rid_key k new bad gone others t m = (
      λ g.
          let other : t ≢ k = λ same. none_some m (sym gone ∙ ap (node_at_key new) (sym same) ∙ g.1) in
          (h t m).0 (λ among. ⊎_elim (λ e. other (key_same (sym e ∙ bad))) g.0 (subst (λ xs. IsBadAmong xs t) is among), sym (others t other) ∙ g.1),
      λ g.
          let w = (h t m).1 g in
          let apart : IsBadAmong (f ∷ rest) t → ⊥ = λ among. w.0 (subst (λ xs. IsBadAmong xs t) (sym is) among) in
          (λ among. apart (inr among), others t (λ same. apart (inl (bad ∙ ap (λ x. BadKey x) (sym same)))) ∙ w.1),
    )
      where
        key_or : List ℕ → FindingKind → List ℕ
        key_or d (BadKey x) = x
        key_or d _ = d

        key_same : {x y : List ℕ} → BadKey x ≡ BadKey y → x ≡ y
        key_same {x} {y} e = ap (key_or x) e

  -- where none is left all are taken out
  pub rid_end : (left : List Finding) (now : Block) → left ≡ [] → IsLeft all B left now → IsRidOf all B now
  rid_end left now is h t m = (
    λ g. (h t m).0 (λ among. subst (λ xs. IsBadAmong xs t) is among, g),
    λ g. ((h t m).1 g).1,
  )
