-- Zarr core specification 3.1, "Group metadata", the keys of Zarr version 2, and its document `.zmetadata`: what
-- storing and erasing a group does to a store.
--     store_changes p m block      the documents that are stored: keys with trees, or removed
--     AreEditsOf cs es      the edits are the changes, one by one, whatever the numbers of their trees
--     store_edits p m block      the edits where all numbers are whole
--     stored_fault_in numbers p m block      why a group is not stored where documents may hold these numbers
--     StoresDocuments, StoresGroup      what a store is after a group was stored over another
--     RefusesStoring, RefusesStoringGroup      what a refused storing leaves, and why it was refused
--     erase_edits p v m      the edits that erase a group
-- <https://zarr-specs.readthedocs.io/en/latest/v3/core/index.html#group-metadata>
-- <https://zarr-specs.readthedocs.io/en/latest/v2/v2.0.html#groups>
-- <https://zarr-specs.readthedocs.io/en/latest/v2/v2.0.html#attributes>
-- <https://zarr.readthedocs.io/en/stable/user-guide/consolidated_metadata/>
use Rattle.std.specs.Prelude.{◌≡◌, ◌⊎◌, ℕ, Bool, IsTrue, List, [], ◌∷◌, ◌++◌, Option, Some, None, option_map, map}
use Rattle.serde_json.specs.Data.{Data, object, Members}
use Rattle.zarrs_store.specs.Segments.{Segments}
use Rattle.zarrs_store.specs.Contents.{Contents}
use Rattle.zarrs_fault.specs.declared.fault.MetadataFault.{MetadataFault}
use Rattle.zarrs_fault.specs.declared.numbers.Numbers.{Numbers}
use Rattle.zarrs_store.specs.declared.storage_error.StorageError.{StorageError}
use Rattle.zarrs_store.specs.declared.storage_error.StorageError.TheVariants.{Fault, InvalidMetadata, Other}
use Rattle.zarrs_store.specs.declared.storage_error.StorageError.TheVariants.{OutOfMemory}
use Rattle.zarrs_path.specs.Keys.{zarr_json, zgroup, zattrs, zmetadata}
use Rattle.zarrs_path.specs.Paths.{Path}
use Rattle.zarrs_config.specs.declared.version.MetadataConvertVersion.{MetadataConvertVersion}
use Rattle.zarrs_config.specs.declared.version.MetadataEraseVersion.{MetadataEraseVersion}
use Rattle.zarrs_config.specs.declared.version.MetadataEraseVersion.TheVariants as version
use Rattle.zarrs_form.specs.Documents.{is_empty}
use Rattle.zarrs_form.specs.Forms.{unless}
use Rattle.zarrs_meta.specs.GroupV3.{group_v3_tree}
use Rattle.zarrs_meta.specs.GroupV2.{group_v2_tree}
use Rattle.zarrs_meta.specs.Node.{group_without_attributes}
use Rattle.zarrs_meta.specs.declared.node.GroupMetadata.{GroupMetadata}
use Rattle.zarrs_meta.specs.declared.node.GroupMetadata.TheVariants.{V3, V2}
use Rattle.zarrs_meta.specs.declared.group_v2.GroupMetadataV2.{GroupMetadataV2}
use Rattle.zarrs_block.specs.Block.{Block}
use Rattle.zarrs_block.specs.Zmetadata.{zmetadata_tree}
use Rattle.zarrs_group.specs.Groups.{GroupState, metadata_by_version}
use Rattle.zarrs_group.specs.StoredTexts.{pretty_text, IsStoredText, IsReadAt}
use Rattle.zarrs_group.specs.Plain.{group_fault_in, beside_fault_in}
use Rattle.zarrs_group.specs.Edits.{Edit, set, remove, after, IsCutShort}

-- ---- storing

-- the key of the group's own document
abbrev pub metadata_key : Path → GroupMetadata → Segments
metadata_key p (V3 m) = p ++ zarr_json ∷ []
metadata_key p (V2 m) = p ++ zgroup ∷ []

-- a change of a key: the tree that is written there, or none where the key is removed
abbrev pub KeyChange : Type 0
KeyChange = Segments × Option Data

-- attributes have a document of their own, which is removed where there are none
abbrev pub attributes_change : Path → Members → KeyChange
attributes_change p attributes = (p ++ zattrs ∷ [], unless (is_empty attributes) (object attributes))

-- the documents of a version 2 group: `.zattrs` is written or removed, and then `.zgroup` written
abbrev pub own_changes : Path → GroupMetadataV2 → List KeyChange
own_changes p m =
    attributes_change p m.attributes ∷ (p ++ zgroup ∷ [], Some (group_v2_tree (group_without_attributes m))) ∷ []

-- version 3 writes `zarr.json`; version 2 without a block removes `.zmetadata` and then has its documents written, and
-- with one has them written before the block, which is the document `.zmetadata`
abbrev pub store_changes : Path → GroupMetadata → Option Block → List KeyChange
store_changes p (V3 m) block = (p ++ zarr_json ∷ [], Some (group_v3_tree m)) ∷ []
store_changes p (V2 m) None = (p ++ zmetadata ∷ [], None) ∷ own_changes p m
store_changes p (V2 m) (Some B) = own_changes p m ++ (p ++ zmetadata ∷ [], Some (zmetadata_tree m B)) ∷ []

-- the edit sets the key to what is stored of the tree, or removes it where there is none
abbrev pub IsEditAt : Segments → Option Data → Edit → Type 0
IsEditAt key (Some d) e = (bytes : List ℕ) × (e ≡ set key bytes) × IsStoredText bytes d
IsEditAt key None e = e ≡ remove key

-- the edits are the changes, one by one
abbrev pub AreEditsOf : List KeyChange → List Edit → Type 0
AreEditsOf [] [] = Unit {0}
AreEditsOf [] (e ∷ es) = ⊥
AreEditsOf (c ∷ cs) [] = ⊥
AreEditsOf (c ∷ cs) (e ∷ es) = IsEditAt c.0 c.1 e × AreEditsOf cs es

-- the edit of a change where all numbers are whole: it sets the key to the pretty layout of the tree, or removes it
abbrev pub whole_edit : Segments → Option Data → Edit
whole_edit key (Some d) = set key (pretty_text d)
whole_edit key None = remove key

-- the edits that store a group where all numbers are whole
abbrev pub store_edits : Path → GroupMetadata → Option Block → List Edit
store_edits p m block = map (λ c. whole_edit c.0 c.1) (store_changes p m block)

-- a fault at a key, where there is one
abbrev pub fault_at : Segments → Option MetadataFault → Option (Segments × MetadataFault)
fault_at key fault = option_map (λ f. (key, f)) fault

-- the first fault, or else the second
abbrev pub first_fault : Option (Segments × MetadataFault) → Option (Segments × MetadataFault)
    → Option (Segments × MetadataFault)
first_fault (Some f) second = Some f
first_fault None second = second

-- why a group is not stored where documents may hold these numbers, with the key: the fault of its metadata, or else
-- that of the block beside those of version 2; or nothing where it is
abbrev pub stored_fault_in : Numbers → Path → GroupMetadata → Option Block → Option (Segments × MetadataFault)
stored_fault_in numbers p m block =
    first_fault (fault_at (metadata_key p m) (group_fault_in numbers m))
    (fault_at (p ++ zmetadata ∷ []) (beside_fault_in numbers m block))

-- the refusal of a group before anything is written, where documents may hold these numbers: it is not plain in them,
-- and the error names the key and why; or out of memory
abbrev pub RefusesMetadata : Numbers → Path → GroupMetadata → Option Block → StorageError → Type 0
RefusesMetadata numbers p m block Fault = ⊥
RefusesMetadata numbers p m block (InvalidMetadata key fault) =
    stored_fault_in numbers p m block ≡ Some (key, fault)
RefusesMetadata numbers p m block (Other text) = ⊥
RefusesMetadata numbers p m block OutOfMemory = Unit {0}

-- the store S' is what the store S becomes where the documents of a group are stored
abbrev pub StoresDocuments : Path → GroupMetadata → Option Block → Contents → Contents → Type 0
StoresDocuments p m block S S' = (es : List Edit) × AreEditsOf (store_changes p m block) es × (S' ≡ after S es)

-- of a group that is plain in the numbers of the store a first part of the edits was done, and not all of them
pub record IsStoringCutShort (p : Path) (m : GroupMetadata) (block : Option Block) (S S' : Contents) : Type 0 where
  pub plain : stored_fault_in S.numbers p m block ≡ None
  pub edits : List Edit
  pub are : AreEditsOf (store_changes p m block) edits
  pub cut : IsCutShort S edits S'

-- a refused store: of a group that is not plain in the numbers of the store, with the store unchanged; of a plain one
-- by the store, with a first part of the edits done; or as out of memory, with the store unchanged or, of a plain one,
-- a first part of the edits done
abbrev pub RefusesStoring : Bool → Path → GroupMetadata → Option Block → Contents → Contents → StorageError → Type 0
RefusesStoring can_fail p m block S S' Fault = IsTrue can_fail × IsStoringCutShort p m block S S'
RefusesStoring can_fail p m block S S' (InvalidMetadata key fault) =
    (S' ≡ S) × (stored_fault_in S.numbers p m block ≡ Some (key, fault))
RefusesStoring can_fail p m block S S' (Other text) = ⊥
RefusesStoring can_fail p m block S S' OutOfMemory = (S' ≡ S) ⊎ IsStoringCutShort p m block S S'

-- the store S' is what the store S becomes where a group is stored by a version
abbrev pub StoresGroup : MetadataConvertVersion → GroupState → Contents → Contents → Type 0
StoresGroup v g S S' = StoresDocuments g.path (metadata_by_version v g.metadata) g.block S S'

-- what storing a group by a version does to a store where all numbers are whole
abbrev pub edits_of_group : MetadataConvertVersion → GroupState → List Edit
edits_of_group v g = store_edits g.path (metadata_by_version v g.metadata) g.block

-- why a group is not stored by a version where documents may hold these numbers, with the key, or nothing where it is
abbrev pub fault_of_group_in : Numbers → MetadataConvertVersion → GroupState → Option (Segments × MetadataFault)
fault_of_group_in numbers v g = stored_fault_in numbers g.path (metadata_by_version v g.metadata) g.block

-- a refused store of a group by a version
abbrev pub RefusesStoringGroup : Bool → MetadataConvertVersion → GroupState → Contents → Contents → StorageError
    → Type 0
RefusesStoringGroup can_fail v g S S' e =
    RefusesStoring can_fail g.path (metadata_by_version v g.metadata) g.block S S' e

-- what the store has at `.zmetadata` is read as what is written of the block beside the metadata of version 2
abbrev pub IsBlockReadBack : Contents → Path → GroupMetadata → Option Block → Type 0
IsBlockReadBack S p (V2 m) (Some B) = IsReadAt S (p ++ zmetadata ∷ []) (zmetadata_tree m B)
IsBlockReadBack S p (V2 m) None = Unit {0}
IsBlockReadBack S p (V3 m) block = Unit {0}

-- ---- erasing

-- the documents of a group of the version that is held
abbrev pub files_of : GroupMetadata → List (List ℕ)
files_of (V3 m) = zarr_json ∷ []
files_of (V2 m) = zgroup ∷ zattrs ∷ zmetadata ∷ []

-- the documents that are erased, in their order
abbrev pub erased_files : MetadataEraseVersion → GroupMetadata → List (List ℕ)
erased_files version.Default m = files_of m
erased_files version.All m = zarr_json ∷ zgroup ∷ zattrs ∷ zmetadata ∷ []
erased_files version.V3 m = zarr_json ∷ []
erased_files version.V2 m = zgroup ∷ zattrs ∷ zmetadata ∷ []

-- the documents that are erased are removed, in their order
abbrev pub erase_edits : Path → MetadataEraseVersion → GroupMetadata → List Edit
erase_edits p v m = map (λ file. remove (p ++ file ∷ [])) (erased_files v m)
