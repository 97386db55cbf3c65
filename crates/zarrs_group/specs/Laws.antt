-- What holds of groups by the definitions alone.
-- <https://zarr-specs.readthedocs.io/en/latest/v3/core/index.html#group-metadata>
use Rattle.std.specs.Prelude.{◌≡◌, ◌≢◌, ◌≤◌, ◌↔◌, ◌⊎◌, Bool, List, [], ◌∷◌, ◌++◌, Option, None, IsTrue}
use Rattle.std.specs.FinMap as map
use Rattle.serde_json.specs.Data.{depth, object}
use Rattle.serde_json.specs.Read.{max_depth}
use Rattle.zarrs_store.specs.Segments.{Segments}
use Rattle.zarrs_store.specs.Contents.{Contents, Values}
use Rattle.zarrs_store.specs.declared.storage_error.StorageError.{StorageError}
use Rattle.zarrs_fault.specs.declared.numbers.Numbers.{Numbers}
use Rattle.zarrs_fault.specs.declared.numbers.Numbers.TheVariants.{Whole}
use Rattle.zarrs_path.specs.Keys.{zarr_json, zarray, zgroup, zattrs, zmetadata}
use Rattle.zarrs_path.specs.Paths.{Path}
use Rattle.zarrs_config.specs.declared.version.MetadataEraseVersion.{MetadataEraseVersion}
use Rattle.zarrs_config.specs.declared.version.MetadataEraseVersion.TheVariants as erase
use Rattle.zarrs_config.specs.declared.version.MetadataRetrieveVersion.TheVariants as retrieve
use Rattle.zarrs_meta.specs.GroupV3.{group_v3_tree}
use Rattle.zarrs_meta.specs.GroupV2.{group_v2_tree}
use Rattle.zarrs_meta.specs.declared.group_v3.GroupMetadataV3.{GroupMetadataV3}
use Rattle.zarrs_meta.specs.declared.node.GroupMetadata.{GroupMetadata}
use Rattle.zarrs_meta.specs.declared.node.GroupMetadata.TheVariants.{V3, V2}
use Rattle.zarrs_block.specs.Block.{Block}
use Rattle.zarrs_group.specs.Groups.{GroupState, attributes_of_group, group_as_v3}
use Rattle.zarrs_group.specs.Plain.{group_fault_in, is_plain_group_in}
use Rattle.zarrs_group.specs.Edits.{Edit, after, IsCutShort}
use Rattle.zarrs_group.specs.Meaning.{MeansGroup}
use Rattle.zarrs_meta.specs.Node.{group_without_attributes}
use Rattle.zarrs_group.specs.StoringGroups.{AreEditsOf, RefusesStoring, StoresDocuments, erase_edits, store_changes}
use Rattle.zarrs_group.specs.StoringGroups.{store_edits, stored_fault_in}

-- the new group has the path, the attributes, and the versions for storing and erasing that the old one has
pub record IsKept (old new : GroupState) : Type 0 where
  pub path : new.path ≡ old.path
  pub attributes : attributes_of_group new.metadata ≡ attributes_of_group old.metadata
  pub convert_version : new.convert_version ≡ old.convert_version
  pub erase_version : new.erase_version ≡ old.erase_version

-- a group that becomes one of version 3 keeps its path, its attributes, and the versions that it is stored and erased
-- by
abbrev pub Version3Keeps : Type 0
Version3Keeps = (g : GroupState) → IsKept g (group_as_v3 g)

-- a group of version 3 stays as it is
abbrev pub Version3Stays : Type 0
Version3Stays = (g : GroupState) (m : GroupMetadataV3) → g.metadata ≡ V3 m → group_as_v3 g ≡ g

-- a group that became one of version 3 stays as it is when it becomes one again
abbrev pub Version3Twice : Type 0
Version3Twice = (g : GroupState) → group_as_v3 (group_as_v3 g) ≡ group_as_v3 g

-- metadata are refused exactly where they could not have come from documents
abbrev pub PlainIsStored : Type 0
PlainIsStored = (m : GroupMetadata) → (group_fault_in Whole m ≡ None) ↔ IsTrue (is_plain_group_in Whole m)

-- the same where documents may hold these numbers
abbrev pub PlainIsStoredIn : Numbers → Type 0
PlainIsStoredIn numbers = (m : GroupMetadata) → (group_fault_in numbers m ≡ None) ↔ IsTrue (is_plain_group_in numbers m)

-- where a group could have come from documents whose numbers are whole, the edits that store it are exactly these
abbrev pub WholeEditsAreExact : Type 0
WholeEditsAreExact =
    (p : Path) (m : GroupMetadata) (block : Option Block) (es : List Edit) → stored_fault_in Whole p m block ≡ None
    → AreEditsOf (store_changes p m block) es → es ≡ store_edits p m block

-- where storing is refused over a store whose documents hold whole numbers only, or of a group that could have come
-- from such, a first part of exactly these edits was done, and not all of them
abbrev pub WholeRefusalIsExact : Type 0
WholeRefusalIsExact =
    (can_fail : Bool) (p : Path) (m : GroupMetadata) (block : Option Block) (S S' : Contents) (e : StorageError)
    → (S.numbers ≡ Whole) ⊎ (stored_fault_in Whole p m block ≡ None) → RefusesStoring can_fail p m block S S' e
    → IsCutShort S (store_edits p m block) S'

-- every key but the four of a group has what it had
abbrev pub OthersStay : Path → Values → Values → Type 0
OthersStay p old new =
    (key : Segments) → key ≢ p ++ zarr_json ∷ [] → key ≢ p ++ zgroup ∷ [] → key ≢ p ++ zattrs ∷ []
    → key ≢ p ++ zmetadata ∷ [] → map.get new key ≡ map.get old key

-- T differs from S at the four keys of a group alone, and its documents may hold the numbers that those of S may
abbrev pub DiffersAtGroup : Path → Contents → Contents → Type 0
DiffersAtGroup p S T = (T.numbers ≡ S.numbers) × OthersStay p S.values T.values

-- edits leave every key but the four of a group as it was, and the numbers, also where they were cut short
abbrev pub OthersStayAfter : Path → List Edit → Type 0
OthersStayAfter p edits =
    (S : Contents)
    → DiffersAtGroup p S (after S edits) × ((S' : Contents) → IsCutShort S edits S' → DiffersAtGroup p S S')

-- storing, of whatever numbers, and erasing leave every key but the four of the group as it was, also where they are
-- refused
abbrev pub OtherKeysStay : Type 0
OtherKeysStay =
    (p : Path) (m : GroupMetadata)
    → ((block : Option Block) → OthersStayAfter p (store_edits p m block))
    × ((block : Option Block) (es : List Edit) → AreEditsOf (store_changes p m block) es → OthersStayAfter p es)
    × ((v : MetadataEraseVersion) → OthersStayAfter p (erase_edits p v m))

-- `.zarray` is at none of the four keys, so storing and erasing never touch it
abbrev pub ArraysStay : Type 0
ArraysStay =
    (p : Path) (S S' : Values) → OthersStay p S S' → map.get S' (p ++ zarray ∷ []) ≡ map.get S (p ++ zarray ∷ [])

-- none of the four keys of a group is there, and every other key has what it had
pub record IsErased (p : Path) (old new : Values) : Type 0 where
  pub no_zarr_json : map.get new (p ++ zarr_json ∷ []) ≡ None
  pub no_zgroup : map.get new (p ++ zgroup ∷ []) ≡ None
  pub no_zattrs : map.get new (p ++ zattrs ∷ []) ≡ None
  pub no_zmetadata : map.get new (p ++ zmetadata ∷ []) ≡ None
  pub others : OthersStay p old new

-- erasing with All leaves none of the four keys, and every other key as it was
abbrev pub ErasingAllErases : Type 0
ErasingAllErases =
    (S : Contents) (p : Path) (m : GroupMetadata) → IsErased p S.values (after S (erase_edits p erase.All m)).values

-- where its documents do not nest too deep, the path means this group: one of version 3 by default and as version 3,
-- one of version 2 as version 2
abbrev pub MeansStored : Contents → Path → GroupMetadata → Type 0
MeansStored S p (V3 m) = depth (group_v3_tree m) ≤ max_depth
    → MeansGroup S retrieve.Default p (V3 m) × MeansGroup S retrieve.V3 p (V3 m)
MeansStored S p (V2 m) =
    depth (object m.attributes) ≤ max_depth → depth (group_v2_tree (group_without_attributes m)) ≤ max_depth
    → MeansGroup S retrieve.V2 p (V2 m)

-- after it was stored in whole numbers, at whatever path, with whatever block and over whatever store, the path means
-- the group
abbrev pub StoredMeans : GroupMetadata → Type 0
StoredMeans m = (S : Contents) (p : Path) (block : Option Block) → MeansStored (after S (store_edits p m block)) p m

-- after a group was stored that is plain in the numbers of the store, the path means the group
abbrev pub StoredMeansIn : Type 0
StoredMeansIn =
    (S S' : Contents) (p : Path) (m : GroupMetadata) (block : Option Block) → group_fault_in S.numbers m ≡ None
    → StoresDocuments p m block S S' → MeansStored S' p m
