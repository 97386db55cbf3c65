-- Steps of comparing the blocks above a path with what the store has from the path on; no public contract rests on
-- them.
use Rattle.std.specs.Prelude.{◌≡◌, ◌↔◌, Bool, true, false, if◌then◌else◌, List, [], ◌∷◌, AllPairs, Contains, Option}
use Rattle.std.specs.Prelude.{Some, None, Ok}
use Rattle.zarrs_store.specs.Contents.{Contents}
use Rattle.zarrs_path.specs.Paths.{Path, IsBelow}
use Rattle.zarrs_config.specs.declared.version.MetadataRetrieveVersion.{MetadataRetrieveVersion}
use Rattle.zarrs_meta.specs.declared.node.NodeMetadata.{NodeMetadata}
use Rattle.zarrs_meta.specs.declared.node.NodeMetadata.TheVariants.{Array}
use Rattle.zarrs_block.specs.Block.{Block}
use Rattle.zarrs_meaning.specs.Meaning.{meaning, node}
use Rattle.zarrs_block.specs.declared.consolidated.ConsolidatedMetadata.{ConsolidatedMetadata}
use Rattle.zarrs_meaning.specs.declared.node_create_error.NodeCreateError.{NodeCreateError}
use Rattle.zarrs_meaning.specs.declared.node_create_error.NodeCreateError.TheVariants.{MissingMetadata}
use Rattle.zarrs_node.specs.Order.{Ascend}
use Rattle.zarrs_check.specs.BlocksAbove.{HasNodeFrom, HasBadFrom, IsAboveFinding}
use Rattle.zarrs_check.specs.Checks.{block_read, StandsBefore}
use Rattle.zarrs_check.specs.Findings.{IsAtOrAbove, IsPathFinding, IsSpoilt, Precedes}
use Rattle.zarrs_meaning.specs.Meaning.{Pair}
use Rattle.zarrs_check.specs.StepsOfChecks.{HasBad}
use Rattle.zarrs_check.specs.StepsOfComparisons.{IsUnderWay}
use Rattle.zarrs_check.specs.declared.base.Base.{Base}
use Rattle.zarrs_check.specs.declared.base.Base.TheVariants.{Node, Refused}
use Rattle.zarrs_check.specs.declared.blocks_above.PartOfStore.{PartOfStore}
use Rattle.zarrs_check.specs.declared.comparison.Comparison.{Comparison}
use Rattle.zarrs_check.specs.declared.finding.Finding.{Finding}

-- the findings are exactly those of the paths at or below b, all of the group g, each once, in the order of paths and
-- kinds
pub record ArePartFindings (E N : Pair → Type 0) (F D : Path → Type 0) (g b : Path)
    (found : List Finding) : Type 0 where
  pub exact : (f : Finding) → Contains found f
      ↔ ((f.group ≡ g) × IsPathFinding E N F D g f.path f.kind × IsAtOrAbove b f.path)
  pub ascend : AllPairs Precedes found

-- all that is told of b and of what is below it, where no nodes are left
abbrev pub IsEndFrom : Path → (Path → Type 0) → Comparison → List (Path × NodeCreateError) → List Finding → Type 0
IsEndFrom b D c bad whole =
    (all nodes : List Pair) → IsUnderWay all nodes c.entries.items [] c
    → ArePartFindings (Contains all) (Contains nodes) (HasBad bad) D c.group b whole

-- ---- what a store has from a path on

-- the part has the nodes from b on, in the order of paths, and what is spoilt by its bad documents is what is bad
-- from b on or below that
pub record IsPartOf (s : Contents) (v : MetadataRetrieveVersion) (b : Path) (part : PartOfStore) : Type 0 where
  pub nodes : (e : Pair) → Contains part.nodes.items e ↔ HasNodeFrom s v b e
  pub ascend : Ascend part.nodes.items
  pub spoilt : (p : Path) → IsSpoilt (HasBad part.bad) p ↔ IsSpoilt (HasBadFrom s v b) p

-- the base is an array
abbrev pub is_array_base : Base → Bool
is_array_base (Node (Array a)) = true
is_array_base _ = false

-- the refusal says that there are no metadata
abbrev pub is_missing : NodeCreateError → Bool
is_missing (MissingMetadata text) = true
is_missing _ = false

-- the base with its error, where its document is bad
abbrev pub bad_base : Path → Base → List (Path × NodeCreateError)
bad_base b (Node m) = []
bad_base b (Refused e) = if is_missing e then [] else (b, e) ∷ []

-- ---- the groups above a path

-- the block of the group at p, and nothing where p is none, or has no block that reads
abbrev pub IsGoodBlock : Contents → MetadataRetrieveVersion → Path → Option ConsolidatedMetadata → Type 0
IsGoodBlock s v p (Some block) =
    (m : NodeMetadata) × (meaning s v p ≡ node m) × (block_read s p m ≡ Some (Ok block.metadata))
IsGoodBlock s v p None = (m : NodeMetadata) (B : Block) → meaning s v p ≡ node m → block_read s p m ≡ Some (Ok B) → ⊥

-- the next group is above b, if there is one
abbrev pub IsNextAbove : Path → Option Path → Type 0
IsNextAbove b None = Unit {0}
IsNextAbove b (Some q) = IsBelow q b

-- the group comes below the next one, if there is one
abbrev pub IsBelowNext : Option Path → Path → Type 0
IsBelowNext None g = Unit {0}
IsBelowNext (Some q) g = IsBelow q g

-- the findings are exactly what the blocks of the groups above b and below the next one say otherwise from b on, each
-- once, in their order
pub record AreFoundBelow (s : Contents) (v : MetadataRetrieveVersion) (b : Path) (next : Option Path)
    (found : List Finding) : Type 0 where
  pub place : IsNextAbove b next
  pub exact : (f : Finding) → Contains found f ↔ (IsAboveFinding s v b f × IsBelowNext next f.group)
  pub ascend : AllPairs StandsBefore found
