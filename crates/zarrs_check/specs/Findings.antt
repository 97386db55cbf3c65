-- Zarr core specification 3.1, "Group metadata", with zarr-python's field `consolidated_metadata` and document
-- `.zmetadata` of version 2: what there is to tell of the block of a group beside the nodes below it.
-- <https://zarr-specs.readthedocs.io/en/latest/v3/core/index.html#group-metadata>
-- <https://zarr.readthedocs.io/en/stable/user-guide/consolidated_metadata/>
--     E, N      the entries of a block below its group, and the nodes of a survey, each any pairs of path and metadata
--     F         the paths of the survey whose documents are bad
--     D         the paths at which the store has a document of a node, reached or not
--     g         the path of the group
--     IsPathFinding E N F D g p kind      what is to be told of the entry or the node at p
--     IsFinding B N F D g f      what is to be told of a block
--     AreFindings B N F D g found      the findings are exactly what is to be told of a block, each once, in the
-- order of paths, kinds and keys
use Rattle.std.specs.Prelude.{◌≡◌, ◌<◌, ◌≢◌, ◌⊎◌, ◌↔◌, ℕ, List, [], ◌∷◌, ◌++◌, AllPairs, Contains, IsSome}
use Rattle.std.specs.declared.cmp.Ordering.TheVariants.{Less}
use Rattle.zarrs_store.specs.Segments.{bytes_cmp}
use Rattle.zarrs_path.specs.Paths.{Path, path_cmp, IsBelow}
use Rattle.zarrs_meta.specs.declared.node.NodeMetadata.{NodeMetadata}
use Rattle.zarrs_block.specs.Block.{Block, Entries, IsValidKey, node_at_key}
use Rattle.zarrs_compare.specs.Same.{IsSame}
use Rattle.zarrs_node.specs.Reach.{HasGroup}
use Rattle.zarrs_check.specs.declared.finding.Finding.{Finding}
use Rattle.zarrs_check.specs.declared.finding.FindingKind.{FindingKind}
use Rattle.zarrs_check.specs.declared.finding.FindingKind.TheVariants.{BlockFault, BadKey, Shadowed, OwnKey}
use Rattle.zarrs_check.specs.declared.finding.FindingKind.TheVariants.{OwnAttributes, Unreachable, Stale, Unreached}
use Rattle.zarrs_check.specs.declared.finding.FindingKind.TheVariants.{Differs, Missing}
use Rattle.zarrs_fault.specs.Bytes.{slash}
use Rattle.zarrs_meaning.specs.Meaning.{Pair}

-- some pair has the path
abbrev pub HasPath : (Pair → Type 0) → Path → Type 0
HasPath N p = (m : NodeMetadata) × N (p, m)

-- q is p or a beginning of it
abbrev pub IsAtOrAbove : Path → Path → Type 0
IsAtOrAbove q p = (ns : Path) × (p ≡ q ++ ns)

-- some path strictly between g and p is no group of E
abbrev pub IsCutOff : (Pair → Type 0) → Path → Path → Type 0
IsCutOff E g p = (q : Path) × IsBelow g q × IsBelow q p × (HasGroup E q → ⊥)

-- p is at or below a path of F
abbrev pub IsSpoilt : (Path → Type 0) → Path → Type 0
IsSpoilt F p = (q : Path) × F q × IsAtOrAbove q p

-- what is to be told of the entry or of the node at p
abbrev pub IsPathFinding : (Pair → Type 0) → (Pair → Type 0) → (Path → Type 0) → (Path → Type 0) → Path → Path
    → FindingKind → Type 0
-- an entry, and some path strictly between is no group entry
IsPathFinding E N F D g p Unreachable = HasPath E p × IsCutOff E g p
-- an entry, and neither a node nor a document; where a document at or above it is bad nothing is known of it
IsPathFinding E N F D g p Stale = HasPath E p × (HasPath N p → ⊥) × (IsSpoilt F p → ⊥) × (D p → ⊥)
-- an entry, and no node, but a document, to which no listing comes
IsPathFinding E N F D g p Unreached = HasPath E p × (HasPath N p → ⊥) × (IsSpoilt F p → ⊥) × D p
-- an entry, and a node with other metadata
IsPathFinding E N F D g p Differs = (m n : NodeMetadata) × E (p, m) × N (p, n) × (IsSame m n → ⊥)
-- a node below the group, and no entry
IsPathFinding E N F D g p Missing = HasPath N p × IsBelow g p × (HasPath E p → ⊥)
-- a fault, a key or the own attributes are told of the block, and of no path
IsPathFinding E N F D g p (BlockFault fault) = ⊥
IsPathFinding E N F D g p (BadKey t) = ⊥
IsPathFinding E N F D g p (Shadowed t) = ⊥
IsPathFinding E N F D g p (OwnKey t) = ⊥
IsPathFinding E N F D g p OwnAttributes = ⊥

-- a key of the block is no relative path
abbrev pub IsBadKey : Block → List ℕ → Type 0
IsBadKey B t = IsSome (node_at_key B t) × (IsValidKey t → ⊥)

-- a key of the block begins with a slash, and the block has what stands behind that, which is some path: it does not
-- count
abbrev pub IsShadowed : Block → List ℕ → Type 0
IsShadowed B t =
    (u : List ℕ) × (t ≡ slash ∷ u) × (u ≢ []) × IsValidKey t × IsSome (node_at_key B t) × IsSome (node_at_key B u)

-- a key of the block is empty or one slash, which is the group itself
abbrev pub IsOwnKey : Block → List ℕ → Type 0
IsOwnKey B t = ((t ≡ []) ⊎ (t ≡ slash ∷ [])) × IsSome (node_at_key B t)

-- what is to be told of the keys of a block; its path is the group's
abbrev pub IsKeyFinding : Block → Path → Path → FindingKind → Type 0
IsKeyFinding B g p (BadKey t) = (p ≡ g) × IsBadKey B t
IsKeyFinding B g p (Shadowed t) = (p ≡ g) × IsShadowed B t
IsKeyFinding B g p (OwnKey t) = (p ≡ g) × IsOwnKey B t
IsKeyFinding B g p _ = ⊥

-- what is to be told of a block that reads
abbrev pub IsFinding : Block → (Pair → Type 0) → (Path → Type 0) → (Path → Type 0) → Path → Finding → Type 0
IsFinding B N F D g f =
    (f.group ≡ g) × (IsKeyFinding B g f.path f.kind ⊎ IsPathFinding (Entries B g) N F D g f.path f.kind)

-- the key that a finding is of, and nothing where it is of a path
abbrev pub key_of : FindingKind → List ℕ
key_of (BadKey t) = t
key_of (Shadowed t) = t
key_of (OwnKey t) = t
key_of _ = []

-- the rank of a kind among those of one path: first what is told of a whole block or of a key, then the own
-- attributes, then whether an entry is cut off, and then what the store has there
abbrev pub rank_of : FindingKind → ℕ
rank_of OwnAttributes = 1
rank_of Unreachable = 2
rank_of Stale = 3
rank_of Unreached = 3
rank_of Differs = 3
rank_of Missing = 3
rank_of _ = 0

-- a kind stands before another of one path: its rank does, or of one rank its key does
abbrev pub KindPrecedes : FindingKind → FindingKind → Type 0
KindPrecedes j k = (rank_of j < rank_of k) ⊎ ((rank_of j ≡ rank_of k) × (bytes_cmp (key_of j) (key_of k) ≡ Less))

-- a finding stands before another: its path does, or of one path its kind does
abbrev pub Precedes : Finding → Finding → Type 0
Precedes f h = (path_cmp f.path h.path ≡ Less) ⊎ ((f.path ≡ h.path) × KindPrecedes f.kind h.kind)

-- the findings are exactly what is to be told of the block B of g, each once, in the order of paths, kinds and keys
pub record AreFindings (B : Block) (N : Pair → Type 0) (F D : Path → Type 0) (g : Path)
    (found : List Finding) : Type 0 where
  pub exact : (f : Finding) → Contains found f ↔ IsFinding B N F D g f
  pub ascend : AllPairs Precedes found
