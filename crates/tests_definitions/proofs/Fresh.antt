-- Zarr core specification 3.1, "Group metadata", the field `consolidated_metadata`: a block made current, by examples.
use Rattle.std.proofs.Common.{◌≡◌, ◌⊎◌, ℕ, Bool, true, false, cond, List, [], ◌∷◌, codes, refl, Some, None, inl, ⊎_elim, is_eq}
use Rattle.zarrs_store.specs.Segments.{bytes_cmp}
use Rattle.zarrs_block.proofs.Expansion.{same_text}
use Rattle.zarrs_path.specs.Paths.{Path}
use Rattle.zarrs_meta.specs.declared.node.NodeMetadata.{NodeMetadata}
use Rattle.zarrs_block.specs.Block.{Block, node_at_key}
use Rattle.zarrs_meaning.specs.Meaning.{Meaning, node, nothing}
use Rattle.zarrs_block.specs.KeysAboutAPath.{IsAbout}
use Rattle.zarrs_node.specs.CurrentBlocks.{IsFresh, HoldsAt, IsNewPair}
use Rattle.tests_definitions.proofs.Meanings.{a, plain_group}

-- nothing stands at any path now
abbrev gone : Path → Meaning
gone p = nothing

-- the block of `/a`
abbrev with_a : Block
with_a = (codes "a", plain_group) ∷ []

-- nothing is renewed there
none_renewed : (t : List ℕ) (m : NodeMetadata) → HoldsAt (IsNewPair gone a) [] t m → ⊥
none_renewed t m h = let is : nothing ≡ node m = h.3.0 in cc

-- where `/a` is gone, the block that had it has nothing
a_goes : IsFresh gone [] with_a a []
a_goes t m = (
  λ h. cc,
  λ h. ⊎_elim (λ kept. absurd (kept.0 (at_a kept.1))) (λ new. absurd (none_renewed t m new.1)) h,
)
  where
    at_a : node_at_key with_a t ≡ Some m → IsAbout (codes "a") t
    at_a h = inl (inl (only t h))
      where
        only : (t : List ℕ) → node_at_key with_a t ≡ Some m → t ≡ codes "a"
        only t h = by (is_eq (bytes_cmp t (codes "a"))) refl h
          where
            by : (c : Bool) → is_eq (bytes_cmp t (codes "a")) ≡ c → cond c (Some plain_group) None ≡ Some m → t ≡ codes "a"
            by true at h = same_text t (codes "a") at
            by false at h = cc

-- and one that still has it is not current
a_may_not_stay : IsFresh gone [] with_a a with_a → ⊥
a_may_not_stay h =
    ⊎_elim (λ kept. kept.0 (inl (inl refl))) (λ new. none_renewed (codes "a") plain_group new.1) ((h (codes "a") plain_group).0 refl)
