-- Steps of taking a path out of a block: ranges of its keys; no public contract rests on them.
use Rattle.std.specs.Prelude.{◌≡◌, ℕ, List, [], ◌∷◌, ◌++◌, Some, ◌⊎◌, ◌↔◌}
use Rattle.zarrs_meta.specs.declared.node.NodeMetadata.{NodeMetadata}
use Rattle.zarrs_block.specs.Block.{Block, node_at_key}
use Rattle.zarrs_block.specs.KeysAboutAPath.{IsAtOrBelow}
use Rattle.zarrs_fault.specs.Bytes.{slash}

-- C has what B has at the keys that are neither r nor begin with r and a slash, and nothing else
abbrev pub IsCutBy : List ℕ → Block → Block → Type 0
IsCutBy r B C =
    (t : List ℕ) (m : NodeMetadata) → (node_at_key C t ≡ Some m) ↔ ((IsAtOrBelow r t → ⊥) × (node_at_key B t ≡ Some m))

-- t is one of the texts
abbrev pub Among : List (List ℕ) → List ℕ → Type 0
Among [] t = ⊥
Among (k ∷ ks) t = (t ≡ k) ⊎ Among ks t

-- the text t begins with r and a slash
abbrev pub Begins : List ℕ → List ℕ → Type 0
Begins r t = (rest : List ℕ) × (t ≡ r ++ slash ∷ rest)

-- each of the texts begins with r and a slash, and each key of B that does is among them
abbrev pub AreKeysBelow : List ℕ → Block → List (List ℕ) → Type 0
AreKeysBelow r B ks =
    (t : List ℕ) → (Among ks t → Begins r t) × ((m : NodeMetadata) → node_at_key B t ≡ Some m → Begins r t → Among ks t)
