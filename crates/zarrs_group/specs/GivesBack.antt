-- Zarr core specification 3.1, "Group metadata", with zarr-python's field `consolidated_metadata` and document
-- `.zmetadata` of version 2: a group whose block was made of a forest gives that forest back.
-- <https://zarr-specs.readthedocs.io/en/latest/v3/core/index.html#group-metadata>
-- <https://zarr.readthedocs.io/en/stable/user-guide/consolidated_metadata/>
--     ConsolidatesIn numbers of g f B, Consolidates of g f B      B is the block of the listed forest f below the
-- version 3 group g, in these numbers or in whole ones
--     ConsolidatesV2 g f B      B is the block of the listed forest f of version 2 nodes below the version 2 group g
--     GivesBack g f      what the children of g are, whatever the store holds
--     OpensTo s g f      what a node opened at the path of g has below it
--     HasStoredBlock S s g      s has the document `.zmetadata` of the version 2 group g that was stored in S
--     OpensToV2 s g f B      what a node opened at the path of a version 2 group g has below it, and the block of a
-- group opened there
use Rattle.std.specs.Prelude.{◌≡◌, ◌≢◌, ◌≤◌, Bool, true, List, [], ◌∷◌, ◌++◌, Contains, IsTrue, Option, Some, None}
use Rattle.std.specs.FinMap as map
use Rattle.serde_json.specs.Data.{depth}
use Rattle.serde_json.specs.Read.{max_depth}
use Rattle.zarrs_store.specs.Contents.{Contents, Lists}
use Rattle.zarrs_path.specs.Keys.{zarr_json, zmetadata}
use Rattle.zarrs_path.specs.Paths.{Path, IsPath, path_text}
use Rattle.zarrs_config.specs.Settings.{Settings}
use Rattle.zarrs_config.specs.declared.version.MetadataRetrieveVersion.{MetadataRetrieveVersion}
use Rattle.zarrs_config.specs.declared.version.MetadataRetrieveVersion.TheVariants as retrieve
use Rattle.zarrs_config.specs.declared.version.UseConsolidatedMetadata.{UseConsolidatedMetadata}
use Rattle.zarrs_config.specs.declared.version.UseConsolidatedMetadata.TheVariants.{Never}
use Rattle.zarrs_meta.specs.declared.group_v3.GroupMetadataV3.{GroupMetadataV3}
use Rattle.zarrs_meta.specs.declared.group_v2.GroupMetadataV2.{GroupMetadataV2}
use Rattle.zarrs_meta.specs.declared.node.GroupMetadata.{GroupMetadata}
use Rattle.zarrs_meta.specs.declared.node.GroupMetadata.TheVariants.{V3, V2}
use Rattle.zarrs_meta.specs.declared.node.NodeMetadata.{NodeMetadata}
use Rattle.zarrs_meta.specs.declared.node.NodeMetadata.TheVariants.{Group}
use Rattle.zarrs_block.specs.Block.{Block, IsAscending, IsBlockOf}
use Rattle.zarrs_block.specs.Zmetadata.{is_version_2, zmetadata_tree, HaveSameEntries}
use Rattle.zarrs_meaning.specs.Refusals.{LacksMemory}
use Rattle.zarrs_meaning.specs.declared.node_create_error.NodeCreateError.{NodeCreateError}
use Rattle.zarrs_node.specs.Forest.{Forest, pairs, Shows}
use Rattle.zarrs_meaning.specs.Meaning.{Meaning, Means, meaning, node}
use Rattle.zarrs_node.specs.Reach.{Kept}
use Rattle.zarrs_node.specs.Inverse.{ArePlain}
use Rattle.zarrs_node.specs.OpeningNodes.{ShowsBelow, RefusesOpening}
use Rattle.zarrs_group.specs.Groups.{GroupState, group_tree}
use Rattle.zarrs_group.specs.BlocksOfGroups.{block_beside, with_block, Fits}
use Rattle.zarrs_group.specs.Children.{ShowsChildren, ListsNodes, RefusesChildren}
use Rattle.zarrs_group.specs.StoringGroups.{stored_fault_in, IsBlockReadBack}
use Rattle.zarrs_group.specs.Laws.{MeansStored}
use Rattle.zarrs_meaning.specs.Meaning.{Pair}
use Rattle.zarrs_fault.specs.declared.numbers.Numbers.{Numbers}
use Rattle.zarrs_fault.specs.declared.numbers.Numbers.TheVariants.{Whole}

-- the group is of version 3; f is what a listing below it finds, whatever the meanings of paths, and its metadata are
-- plain in these numbers; and B holds exactly the pairs of f, as `consolidate_metadata` makes it
pub record ConsolidatesIn (numbers : Numbers) (of : Path → Meaning) (g : GroupState) (f : Forest)
    (B : Block) : Type 0 where
  pub version_3 : (m : GroupMetadataV3) × (g.metadata ≡ V3 m)
  pub listed : Shows f g.path (Kept (Means of) true g.path)
  pub plain : ArePlain numbers (pairs f)
  pub ascending : IsAscending B
  pub block : IsBlockOf (Contains (pairs f)) g.path B

-- the same in whole numbers
abbrev pub Consolidates : (Path → Meaning) → GroupState → Forest → Block → Type 0
Consolidates of g f B = ConsolidatesIn Whole of g f B

-- whatever store is handed in, where the policy is not Never: the one forest of the group's children is f, what is
-- traversed are the pairs of f in some order, and nothing refuses but out of memory
pub record GivesBack (g : GroupState) (f : Forest) : Type 0 where
  pub children : (s : Contents) (config : Settings) → config.use_consolidated ≢ Never → (t : Forest)
      → ShowsChildren s g config true t → t ≡ f
  pub traversed : (s : Contents) (config : Settings) → config.use_consolidated ≢ Never → (es : List Pair)
      → ListsNodes s g config es → Lists (Contains (pairs f)) es
  pub excused : (s : Contents) (config : Settings) → config.use_consolidated ≢ Never
      → (can_fail : Bool) (e : NodeCreateError) → RefusesChildren can_fail s g config true e → LacksMemory e

-- After its block was set to that of a listed forest, a version 3 group gives the forest back.
abbrev pub GroupGivesBack : Type 0
GroupGivesBack =
    (of : Path → Meaning) (g : GroupState) (f : Forest) (B : Block) → Consolidates of g f B
    → GivesBack (with_block g (Some B)) f

-- the group is of version 2; f is what a listing below it finds, whatever the meanings of paths, and its nodes are of
-- version 2; and B holds exactly the pairs of f, as `consolidate_metadata` makes it
pub record ConsolidatesV2 (of : Path → Meaning) (g : GroupState) (f : Forest) (B : Block) : Type 0 where
  pub version_2 : (m : GroupMetadataV2) × (g.metadata ≡ V2 m)
  pub listed : Shows f g.path (Kept (Means of) true g.path)
  pub nodes : (e : Pair) → Contains (pairs f) e → IsTrue (is_version_2 e.1)
  pub block : IsBlockOf (Contains (pairs f)) g.path B

-- A version 2 group takes the block of a listed forest of version 2 nodes, and once it was set gives the forest back.
abbrev pub GroupV2GivesBack : Type 0
GroupV2GivesBack = (of : Path → Meaning) (g : GroupState) (f : Forest) (B : Block) → ConsolidatesV2 of g f B
    → Fits g.metadata (Some B) × GivesBack (with_block g (Some B)) f

-- in a store, as version 3 or by default, where the policy is not Never: the path of the group means the group, the
-- one forest of a node opened there is f, and the opening is not refused
pub record OpensTo (s : Contents) (g : GroupState) (f : Forest) : Type 0 where
  pub means : (v : MetadataRetrieveVersion) → v ≢ retrieve.V2 → meaning s v g.path ≡ node (Group g.metadata)
  pub children : (v : MetadataRetrieveVersion) → v ≢ retrieve.V2 → (policy : UseConsolidatedMetadata) → policy ≢ Never
      → (m : NodeMetadata) (t : Forest) → meaning s v g.path ≡ node m → ShowsBelow s v policy g.path m t → t ≡ f
  pub opened : (v : MetadataRetrieveVersion) → v ≢ retrieve.V2 → (policy : UseConsolidatedMetadata) → policy ≢ Never
      → (e : NodeCreateError) → RefusesOpening s v policy (path_text g.path) e → ⊥

-- A version 3 group that was stored with the block of a listed forest and does not nest too deep gives the forest
-- back over any store that has the stored bytes at its key, and the numbers: a node that is opened there has that
-- forest below it.
abbrev pub StoredGivesBack : Type 0
StoredGivesBack =
    (of : Path → Meaning) (g : GroupState) (f : Forest) (B : Block) → Consolidates of g f B → IsPath g.path
    → (S : Contents) → MeansStored S g.path (with_block g (Some B)).metadata
    → depth (group_tree (with_block g (Some B)).metadata) ≤ max_depth → (s : Contents) → s.numbers ≡ S.numbers
    → map.get s.values (g.path ++ zarr_json ∷ []) ≡ map.get S.values (g.path ++ zarr_json ∷ [])
    → OpensTo s (with_block g (Some B)) f

-- The same in the numbers of the store: the metadata of the forest are plain in these.
abbrev pub StoredGivesBackIn : Type 0
StoredGivesBackIn =
    (of : Path → Meaning) (g : GroupState) (f : Forest) (B : Block) (S : Contents) → ConsolidatesIn S.numbers of g f B
    → IsPath g.path → MeansStored S g.path (with_block g (Some B)).metadata
    → depth (group_tree (with_block g (Some B)).metadata) ≤ max_depth → (s : Contents) → s.numbers ≡ S.numbers
    → map.get s.values (g.path ++ zarr_json ∷ []) ≡ map.get S.values (g.path ++ zarr_json ∷ [])
    → OpensTo s (with_block g (Some B)) f

-- the document `.zmetadata` of the block beside the metadata of version 2 does not nest too deep
abbrev pub IsBlockShallow : GroupMetadata → Option Block → Type 0
IsBlockShallow (V2 m) (Some B) = depth (zmetadata_tree m B) ≤ max_depth
IsBlockShallow (V2 m) None = Unit {0}
IsBlockShallow (V3 m) block = Unit {0}

-- the group is at no fault in the numbers of s; what S has at the key of `.zmetadata` is read as the document of its
-- block, which does not nest too deep; and s has there what S has
pub record HasStoredBlock (S s : Contents) (g : GroupState) : Type 0 where
  pub plain : stored_fault_in s.numbers g.path g.metadata g.block ≡ None
  pub reads : IsBlockReadBack S g.path g.metadata g.block
  pub shallow : IsBlockShallow g.metadata g.block
  pub same : map.get s.values (g.path ++ zmetadata ∷ []) ≡ map.get S.values (g.path ++ zmetadata ∷ [])

-- in a store, by each version by which the path of the group means the group, where the policy is not Never: the one
-- forest of a node opened there is f, and the opening is not refused; and a group opened there has beside its
-- metadata a block with the entries of B, and gives the forest back
pub record OpensToV2 (s : Contents) (g : GroupState) (f : Forest) (B : Block) : Type 0 where
  pub children : (v : MetadataRetrieveVersion) → meaning s v g.path ≡ node (Group g.metadata)
      → (policy : UseConsolidatedMetadata) → policy ≢ Never
      → (t : Forest) → ShowsBelow s v policy g.path (Group g.metadata) t → t ≡ f
  pub opened : (v : MetadataRetrieveVersion) → meaning s v g.path ≡ node (Group g.metadata)
      → (policy : UseConsolidatedMetadata) → policy ≢ Never
      → (e : NodeCreateError) → RefusesOpening s v policy (path_text g.path) e → ⊥
  pub beside : (C : Block) × (block_beside s g.path g.metadata ≡ Some C) × HaveSameEntries B C
  pub group : (h : GroupState) → h.path ≡ g.path → h.metadata ≡ g.metadata → h.block ≡ block_beside s g.path g.metadata
      → GivesBack h f

-- A version 2 group that was stored with the block of a listed forest of version 2 nodes, in the order of its keys,
-- gives the forest back over any store that has its document `.zmetadata`, and in whose numbers it is plain.
abbrev pub StoredV2GivesBack : Type 0
StoredV2GivesBack =
    (of : Path → Meaning) (g : GroupState) (f : Forest) (B : Block) → ConsolidatesV2 of g f B → IsAscending B
    → IsPath g.path
    → (S s : Contents) → HasStoredBlock S s (with_block g (Some B)) → OpensToV2 s (with_block g (Some B)) f B
