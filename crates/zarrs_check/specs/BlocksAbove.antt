-- Zarr core specification 3.1, "Group metadata", with zarr-python's field `consolidated_metadata` and document
-- `.zmetadata` of version 2: what the blocks of the groups above a path say otherwise than the store of the path and of
-- what is below it.
-- <https://zarr-specs.readthedocs.io/en/latest/v3/core/index.html#group-metadata>
-- <https://zarr.readthedocs.io/en/stable/user-guide/consolidated_metadata/>
--     HasNodeFrom s v b e, HasBadFrom s v b q      what stands in the store from b on, and what is bad there
--     IsAboveFinding s v b f      what a block of a group above b says otherwise from b on
--     AreAboveFindings s v b found      the findings are exactly these, each once, in the order of groups, paths and
-- kinds
use Rattle.std.specs.Prelude.{◌≡◌, ◌⊎◌, ◌↔◌, List, AllPairs, Contains, Some, Ok}
use Rattle.zarrs_store.specs.Contents.{Contents}
use Rattle.zarrs_path.specs.Paths.{Path, IsBelow}
use Rattle.zarrs_config.specs.declared.version.MetadataRetrieveVersion.{MetadataRetrieveVersion}
use Rattle.zarrs_meta.specs.declared.node.ArrayMetadata.{ArrayMetadata}
use Rattle.zarrs_meta.specs.declared.node.NodeMetadata.{NodeMetadata}
use Rattle.zarrs_meta.specs.declared.node.NodeMetadata.TheVariants.{Array}
use Rattle.zarrs_block.specs.Block.{Block, Entries}
use Rattle.zarrs_meaning.specs.Meaning.{meaning, node, bad}
use Rattle.zarrs_meaning.specs.declared.node_create_error.NodeCreateError.{NodeCreateError}
use Rattle.zarrs_meaning.specs.Exists.{HasNodeKey}
use Rattle.zarrs_check.specs.Checks.{block_read, HasNode, HasBadPath, StandsBefore}
use Rattle.zarrs_check.specs.Findings.{IsAtOrAbove, IsPathFinding}
use Rattle.zarrs_meaning.specs.Meaning.{Pair}
use Rattle.zarrs_check.specs.declared.finding.Finding.{Finding}

-- the path means no array
abbrev pub MeansNoArray : Contents → MetadataRetrieveVersion → Path → Type 0
MeansNoArray s v b = (a : ArrayMetadata) → meaning s v b ≡ node (Array a) → ⊥

-- b itself, where it means a node, and the nodes below it, where it means no array
abbrev pub HasNodeFrom : Contents → MetadataRetrieveVersion → Path → Pair → Type 0
HasNodeFrom s v b e = HasNode s v b e × ((e.0 ≡ b) ⊎ MeansNoArray s v b)

-- b itself, where its document is bad, and the bad paths below it, where it means no array
abbrev pub HasBadFrom : Contents → MetadataRetrieveVersion → Path → Path → Type 0
HasBadFrom s v b q =
    ((q ≡ b) × ((e : NodeCreateError) × (meaning s v b ≡ bad e))) ⊎ (MeansNoArray s v b × HasBadPath s v b q)

-- the group of the finding is above b and has a block that reads, and the finding is of a path at or below b, by what
-- the store has from b on
pub record IsAboveFinding (s : Contents) (v : MetadataRetrieveVersion) (b : Path) (f : Finding) : Type 0 where
  pub above : IsBelow f.group b
  pub metadata : NodeMetadata
  pub means : meaning s v f.group ≡ node metadata
  pub block : Block
  pub reads : block_read s f.group metadata ≡ Some (Ok block)
  pub finding : IsPathFinding (Entries block f.group) (HasNodeFrom s v b) (HasBadFrom s v b)
      (HasNodeKey s) f.group f.path f.kind
  pub place : IsAtOrAbove b f.path

-- the findings are exactly what the blocks above b say otherwise from b on, each once, in the order of groups, paths
-- and kinds
pub record AreAboveFindings (s : Contents) (v : MetadataRetrieveVersion) (b : Path)
    (found : List Finding) : Type 0 where
  pub exact : (f : Finding) → Contains found f ↔ IsAboveFinding s v b f
  pub ascend : AllPairs StandsBefore found
