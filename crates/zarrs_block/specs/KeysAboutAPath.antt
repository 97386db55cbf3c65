-- Zarr core specification 3.1, "Group metadata", with zarr-python's field `consolidated_metadata`: a block without what
-- it has at a path and below it.
-- <https://zarr-specs.readthedocs.io/en/latest/v3/core/index.html#group-metadata>
-- <https://zarr.readthedocs.io/en/stable/user-guide/consolidated_metadata/>
--     IsAtOrBelow r t, IsAbout r t      which keys stand for the path whose text is r, or for one below it
--     IsWithout r B C      C is B without the keys that are about r
use Rattle.std.specs.Prelude.{◌≡◌, ℕ, List, ◌∷◌, ◌++◌, Some, ◌⊎◌, ◌↔◌}
use Rattle.zarrs_meta.specs.declared.node.NodeMetadata.{NodeMetadata}
use Rattle.zarrs_block.specs.Block.{Block, node_at_key}
use Rattle.zarrs_fault.specs.Bytes.{slash}

-- the text t is r, or begins with r and a slash
abbrev pub IsAtOrBelow : List ℕ → List ℕ → Type 0
IsAtOrBelow r t = (t ≡ r) ⊎ ((rest : List ℕ) × (t ≡ r ++ slash ∷ rest))

-- t is r or begins with r and a slash, or does so where one slash in front is taken off
abbrev pub IsAbout : List ℕ → List ℕ → Type 0
IsAbout r t = IsAtOrBelow r t ⊎ ((u : List ℕ) × (t ≡ slash ∷ u) × IsAtOrBelow r u)

-- C has what B has at the keys that are not about r, and nothing else
abbrev pub IsWithout : List ℕ → Block → Block → Type 0
IsWithout r B C =
    (t : List ℕ) (m : NodeMetadata) → (node_at_key C t ≡ Some m) ↔ ((IsAbout r t → ⊥) × (node_at_key B t ≡ Some m))
