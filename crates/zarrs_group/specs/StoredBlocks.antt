-- Zarr core specification 3.1, "Group metadata", with zarr-python's field `consolidated_metadata`: a version 3 group
-- that was stored with the block of a listing opens by that block as by a listing.
-- <https://zarr-specs.readthedocs.io/en/latest/v3/core/index.html#group-metadata>
-- <https://zarr.readthedocs.io/en/stable/user-guide/consolidated_metadata/>
--     OpensAlike S v p m      p means the group m, which has the same forest below it by its block and by a listing
--     EditKeepsOthers, StoringKeepsOthers      an edit, and the storing of a version 3 group, change one key
--     WrittenBlockOpens      so opens a group of either version whose document with the block was set, with any numbers
--     FullBlockOpens      and so where the block was set in full
use Rattle.std.specs.Prelude.{◌≡◌, ◌≢◌, ◌≤◌, ℕ, Bool, List, [], ◌∷◌, ◌++◌, Some}
use Rattle.serde_json.specs.Data.{depth}
use Rattle.serde_json.specs.Read.{max_depth}
use Rattle.zarrs_store.specs.Segments.{Segments}
use Rattle.zarrs_store.specs.Contents.{Contents, with_key}
use Rattle.zarrs_store.specs.declared.storage_error.StorageError.{StorageError}
use Rattle.zarrs_path.specs.Keys.{zarr_json}
use Rattle.zarrs_path.specs.Paths.{Path, IsPath, path_text}
use Rattle.zarrs_config.specs.declared.version.MetadataConvertVersion.{MetadataConvertVersion}
use Rattle.zarrs_config.specs.declared.version.MetadataRetrieveVersion.{MetadataRetrieveVersion}
use Rattle.zarrs_config.specs.declared.version.MetadataRetrieveVersion.TheVariants as retrieve
use Rattle.zarrs_config.specs.declared.version.UseConsolidatedMetadata.{UseConsolidatedMetadata}
use Rattle.zarrs_config.specs.declared.version.UseConsolidatedMetadata.TheVariants.{Must, Never}
use Rattle.zarrs_meta.specs.declared.group_v3.GroupMetadataV3.{GroupMetadataV3}
use Rattle.zarrs_meta.specs.declared.node.GroupMetadata.{GroupMetadata}
use Rattle.zarrs_meta.specs.declared.node.GroupMetadata.TheVariants.{V3}
use Rattle.zarrs_meta.specs.declared.node.NodeMetadata.TheVariants.{Group}
use Rattle.zarrs_block.specs.Block.{Block}
use Rattle.zarrs_meaning.specs.Meaning.{meaning, node}
use Rattle.zarrs_block.specs.Policy.{group_block}
use Rattle.zarrs_meaning.specs.declared.node_create_error.NodeCreateError.{NodeCreateError}
use Rattle.zarrs_node.specs.Forest.{Forest}
use Rattle.zarrs_node.specs.ListedBlocks.{IsListedBlock}
use Rattle.zarrs_node.specs.OpeningNodes.{ShowsBelow, RefusesOpening}
use Rattle.zarrs_group.specs.Groups.{GroupState, group_tree, metadata_by_version}
use Rattle.zarrs_group.specs.BlockDocuments.{IsBlockDocument}
use Rattle.zarrs_group.specs.BlocksOfGroups.{with_block, Fits}
use Rattle.zarrs_group.specs.FullBlocks.{with_full_block}
use Rattle.zarrs_group.specs.Edits.{AgreesOutsideKey, Edit, after, after_edit, edit_key}
use Rattle.zarrs_group.specs.Laws.{MeansStored}
use Rattle.zarrs_group.specs.Meaning.{MeansGroup}
use Rattle.zarrs_group.specs.StoringGroups.{edits_of_group, StoresGroup, RefusesStoringGroup}

-- in a store, by a version: p means the group; a node opened there by the group's block, under Must, has the forest
-- below it that one opened by a listing, under Never, has; and under no policy does anything in the store refuse the
-- opening
pub record OpensAlike (S : Contents) (v : MetadataRetrieveVersion) (p : Path) (m : GroupMetadata) : Type 0 where
  pub means : meaning S v p ≡ node (Group m)
  pub children : (f g : Forest) → ShowsBelow S v Must p (Group m) f → ShowsBelow S v Never p (Group m) g → f ≡ g
  pub opened : (policy : UseConsolidatedMetadata) (e : NodeCreateError) → RefusesOpening S v policy (path_text p) e → ⊥

-- An edit leaves every other key as it was, and the numbers.
abbrev pub EditKeepsOthers : Type 0
EditKeepsOthers = (S : Contents) (e : Edit) → AgreesOutsideKey (edit_key e) S (after_edit S e)

-- Storing a version 3 group, by whatever version and with whatever numbers, leaves every key but that of its document
-- as it was, and the numbers, also where it is refused.
abbrev pub StoringKeepsOthers : Type 0
StoringKeepsOthers =
    (S T : Contents) (v : MetadataConvertVersion) (g : GroupState) (m : GroupMetadataV3) → g.metadata ≡ V3 m
    → AgreesOutsideKey (g.path ++ zarr_json ∷ []) S (after S (edits_of_group v g))
    × (StoresGroup v g S T → AgreesOutsideKey (g.path ++ zarr_json ∷ []) S T)
    × ((can_fail : Bool) (e : StorageError) → RefusesStoringGroup can_fail v g S T e
    → AgreesOutsideKey (g.path ++ zarr_json ∷ []) S T)

-- What a path means as a group of version 3 is a group of version 3.
abbrev pub MeansVersion3 : Type 0
MeansVersion3 =
    (S : Contents) (p : Path) (m : GroupMetadata) → MeansGroup S retrieve.V3 p m → (k : GroupMetadataV3) × (m ≡ V3 k)

-- A version 3 group that is stored with the listed block of the store, by whatever version, and does not nest too
-- deep, holds that block in the numbers of the store, and opens alike by it and by a listing, by default and as
-- version 3.
abbrev pub ListedBlockOpens : Type 0
ListedBlockOpens =
    (S : Contents) (v : MetadataRetrieveVersion) (w : MetadataConvertVersion) (g : GroupState) (m : GroupMetadataV3)
    (B : Block) → v ≢ retrieve.V2 → IsPath g.path → g.metadata ≡ V3 m → IsListedBlock S v g.path B
    → MeansStored S g.path (metadata_by_version w (with_block g (Some B)).metadata)
    → depth (group_tree (with_block g (Some B)).metadata) ≤ max_depth
    → (group_block S.numbers (with_block g (Some B)).metadata ≡ Some B)
    × OpensAlike S v g.path (with_block g (Some B)).metadata

-- Where a path means a group, of either version, that takes the listed block of the store, and the document that
-- holds this block is set at its key, then in the store after it the group with that block opens alike by it and by a
-- listing, by the same version, whatever numbers stand in its documents.
abbrev pub WrittenBlockOpens : Type 0
WrittenBlockOpens =
    (S : Contents) (v : MetadataRetrieveVersion) (g : GroupState) (B : Block) (key : Segments) (bytes : List ℕ)
    → IsPath g.path → meaning S v g.path ≡ node (Group g.metadata) → IsListedBlock S v g.path B
    → Fits g.metadata (Some B) → IsBlockDocument (with_block g (Some B)) key bytes
    → OpensAlike (with_key S key bytes) v g.path (with_block g (Some B)).metadata

-- So it does where the document holds the block in full.
abbrev pub FullBlockOpens : Type 0
FullBlockOpens =
    (S : Contents) (v : MetadataRetrieveVersion) (g : GroupState) (B : Block) (key : Segments) (bytes : List ℕ)
    → IsPath g.path → meaning S v g.path ≡ node (Group g.metadata) → IsListedBlock S v g.path B
    → Fits g.metadata (Some B) → IsBlockDocument (with_full_block g (Some B)) key bytes
    → OpensAlike (with_key S key bytes) v g.path (with_full_block g (Some B)).metadata
