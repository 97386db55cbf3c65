-- Zarr core specification 3.1, "Group metadata", with zarr-python's field `consolidated_metadata` and document
-- `.zmetadata` of version 2: what there is to tell of all blocks of a store at a path and below it.
-- <https://zarr-specs.readthedocs.io/en/latest/v3/core/index.html#group-metadata>
-- <https://zarr.readthedocs.io/en/stable/user-guide/consolidated_metadata/>
--     block_read s p m      what is read as the block of a node: nothing, or a block, or its first fault
--     own_read s p m      the attributes that the document of a block has of its own group, if it has some
--     HasNode s v b e       the base with its metadata, or a node below it
--     IsBlockFinding s v b f      what there is to tell of the blocks
--     AreBlockFindings s v b found      the findings are exactly what there is to tell of the blocks, each once, in
-- the order of groups, paths, kinds and keys
--     IsNodeTold s v b t      what there is to tell of nodes by their own documents
--     IsCheckOf s v b c      the check has the outcome of the base, the number of the nodes, what was passed over and
-- what is bad
use Rattle.std.specs.Prelude.{◌≡◌, ◌≢◌, ◌⊎◌, ◌↔◌, true, ℕ, length, List, [], ◌∷◌, ◌++◌, AllPairs, Contains, Option}
use Rattle.std.specs.Prelude.{Some, None, option_map, option_and_then, Result, Ok, Err, codes}
use Rattle.std.specs.declared.cmp.Ordering.TheVariants.{Less}
use Rattle.std.specs.FinMap.{get}
use Rattle.std.specs.Result.{result_ok}
use Rattle.serde_json.specs.Data.{Data, Members}
use Rattle.serde_json.specs.Find.{get_member}
use Rattle.zarrs_fault.specs.declared.fault.MetadataFault.{MetadataFault}
use Rattle.zarrs_fault.specs.declared.numbers.Numbers.{Numbers}
use Rattle.zarrs_store.specs.Contents.{Contents, Lists}
use Rattle.zarrs_path.specs.Keys.{zmetadata}
use Rattle.zarrs_path.specs.Paths.{Path, path_cmp}
use Rattle.zarrs_config.specs.declared.version.MetadataRetrieveVersion.{MetadataRetrieveVersion}
use Rattle.zarrs_form.specs.Documents.{json_of, of_bytes}
use Rattle.zarrs_meta.specs.declared.node.ArrayMetadata.TheVariants.{V2 as array_v2, V3 as array_v3}
use Rattle.zarrs_meta.specs.declared.node.GroupMetadata.TheVariants.{V2, V3}
use Rattle.zarrs_meta.specs.declared.node.NodeMetadata.{NodeMetadata}
use Rattle.zarrs_meta.specs.declared.node.NodeMetadata.TheVariants.{Group, Array}
use Rattle.zarrs_block.specs.Block.{Block, block_of_in}
use Rattle.zarrs_block.specs.declared.consolidated.ConsolidatedMetadata.{ConsolidatedMetadata}
use Rattle.zarrs_meaning.specs.Meaning.{Meaning, meaning, node, nothing, bad}
use Rattle.zarrs_meaning.specs.Small.{small, small_meaning_in}
use Rattle.zarrs_block.specs.Zmetadata.{zmetadata_in, zmetadata_members_in}
use Rattle.zarrs_meaning.specs.declared.node_create_error.NodeCreateError.{NodeCreateError}
use Rattle.zarrs_node.specs.Faults.{PathsAscend}
use Rattle.zarrs_node.specs.Nodes.{Nodes, Ignored}
use Rattle.zarrs_meaning.specs.Exists.{HasNodeKey}
use Rattle.zarrs_notes.specs.NodeFindings.{ComesBefore, IsNodeFinding}
use Rattle.zarrs_notes.specs.declared.finding.NodeFinding.{NodeFinding}
use Rattle.zarrs_check.specs.Alike.{AreAlikeAmong}
use Rattle.zarrs_check.specs.Findings.{IsFinding, Precedes}
use Rattle.zarrs_meaning.specs.Meaning.{Pair}
use Rattle.zarrs_check.specs.Orphans.{IsOrphan, AreHidden}
use Rattle.zarrs_check.specs.Surveys.{IsBase, BadDocuments, BadNames}
use Rattle.zarrs_check.specs.declared.base.Base.TheVariants.{Node, Refused}
use Rattle.zarrs_check.specs.declared.check.Check.{Check}
use Rattle.zarrs_check.specs.declared.finding.Finding.{Finding}
use Rattle.zarrs_check.specs.declared.finding.FindingKind.TheVariants.{BlockFault, OwnAttributes}

-- what is read as the block of a node, in the numbers of the store: of a version 3 group its field, of one of version
-- 2 the document beside its own; an array has none
abbrev pub block_read : Contents → Path → NodeMetadata → Option (Result Block MetadataFault)
block_read s p (Group (V3 g)) =
    option_map (block_of_in s.numbers) (get_member (codes "consolidated_metadata") g.additional_fields)
block_read s p (Group (V2 g)) =
    option_map (λ bytes. of_bytes (zmetadata_in s.numbers) bytes) (get s.values (p ++ zmetadata ∷ []))
block_read s p (Array a) = None

-- what was read as a block, as it is seen
abbrev pub as_read : Option (Result ConsolidatedMetadata MetadataFault) → Option (Result Block MetadataFault)
as_read None = None
as_read (Some (Ok block)) = Some (Ok block.metadata)
as_read (Some (Err fault)) = Some (Err fault)

-- the attributes of a node
abbrev pub node_attributes : NodeMetadata → Members
node_attributes (Group (V3 m)) = m.attributes
node_attributes (Group (V2 m)) = m.attributes
node_attributes (Array (array_v3 m)) = m.attributes
node_attributes (Array (array_v2 m)) = m.attributes

-- the attributes of the node that a path means, if it means one
abbrev pub attributes_meant : Meaning → Option Members
attributes_meant (node m) = Some (node_attributes m)
attributes_meant nothing = None
attributes_meant (bad e) = None

-- the attributes that a document `.zmetadata`, which may hold these numbers, has of its own group: those of the node
-- that its members mean at the group itself, if they mean one
abbrev pub own_attributes_in : Numbers → Data → Option Members
own_attributes_in numbers d =
    option_and_then (λ ms. attributes_meant (small_meaning_in numbers (small [] ms) []))
    (result_ok (zmetadata_members_in numbers d))

-- the attributes that the document of the block of a node has of it, if it has some, in the numbers of the store: of
-- a version 2 group alone the block has a document
abbrev pub own_read : Contents → Path → NodeMetadata → Option Members
own_read s p (Group (V2 g)) =
    option_and_then (own_attributes_in s.numbers) (option_and_then json_of (get s.values (p ++ zmetadata ∷ [])))
own_read s p (Group (V3 g)) = None
own_read s p (Array a) = None

-- the document of the block of a node has attributes of it that are not the same as its own
abbrev pub HasOtherAttributes : Contents → Path → NodeMetadata → Type 0
HasOtherAttributes s p m = (own : Members) × (own_read s p m ≡ Some own) × (own ≢ node_attributes m)

-- the base with its metadata, or a node that a listing finds below it
abbrev pub HasNode : Contents → MetadataRetrieveVersion → Path → Pair → Type 0
HasNode s v b e = ((e.0 ≡ b) × (meaning s v b ≡ node e.1)) ⊎ Nodes s v true b e

-- the path is reached and has a bad document
abbrev pub HasBadPath : Contents → MetadataRetrieveVersion → Path → Path → Type 0
HasBadPath s v b q = (e : NodeCreateError) × BadDocuments s v b (q, e)

-- the whole block is at fault
abbrev pub fault_of_block : Path → MetadataFault → Finding
fault_of_block g fault = record { group = g; path = g; kind = BlockFault fault }

-- the document of the block of g has other attributes of g
abbrev pub own_finding : Path → Finding
own_finding g = record { group = g; path = g; kind = OwnAttributes }

-- what there is to tell of what was read as the block of g, where O says that its document has other attributes of g,
-- beside the nodes N, the bad documents F and all documents D
abbrev pub IsToldOf : Option (Result Block MetadataFault) → Type 0 → (Pair → Type 0) → (Path → Type 0) → (Path → Type 0)
    → Path → Finding → Type 0
IsToldOf None O N F D g f = ⊥
IsToldOf (Some (Err fault)) O N F D g f = f ≡ fault_of_block g fault
IsToldOf (Some (Ok B)) O N F D g f = IsFinding B N F D g f ⊎ (O × (f ≡ own_finding g))

-- what there is to tell of the blocks of a store at b and below it
abbrev pub IsBlockFinding : Contents → MetadataRetrieveVersion → Path → Finding → Type 0
IsBlockFinding s v b f =
    (m : NodeMetadata) × HasNode s v b (f.group, m)
    × IsToldOf (block_read s f.group m) (HasOtherAttributes s f.group m) (Nodes s v true b) (HasBadPath s v b)
    (HasNodeKey s) f.group f

-- a finding stands before another: its group does, or of one group it precedes the other
abbrev pub StandsBefore : Finding → Finding → Type 0
StandsBefore f h = (path_cmp f.group h.group ≡ Less) ⊎ ((f.group ≡ h.group) × Precedes f h)

-- the findings are exactly what there is to tell of the blocks at b and below it, each once, in the order of groups,
-- paths, kinds and keys
pub record AreBlockFindings (s : Contents) (v : MetadataRetrieveVersion) (b : Path)
    (found : List Finding) : Type 0 where
  pub exact : (f : Finding) → Contains found f ↔ IsBlockFinding s v b f
  pub ascend : AllPairs StandsBefore found

-- ---- nodes by their own documents

-- what there is to tell of the base, where it is a node, and of the nodes below it, each with the path of the node
abbrev pub IsNodeTold : Contents → MetadataRetrieveVersion → Path → Path × NodeFinding → Type 0
IsNodeTold s v b t = (m : NodeMetadata) × HasNode s v b (t.0, m) × IsNodeFinding s t.0 m t.1

-- what is told of a node stands before: its path does, or of one path the finding comes before the other
abbrev pub IsToldBefore : Path × NodeFinding → Path × NodeFinding → Type 0
IsToldBefore t u = (path_cmp t.0 u.0 ≡ Less) ⊎ ((t.0 ≡ u.0) × ComesBefore t.1 u.1)

-- ---- all that a check has

-- the base has no fault where it is a node, with some metadata; else it is refused with this error
abbrev pub IsBaseFault : Contents → MetadataRetrieveVersion → Path → Option NodeCreateError → Type 0
IsBaseFault s v b None = (m : NodeMetadata) × IsBase s v b (Node m)
IsBaseFault s v b (Some e) = IsBase s v b (Refused e)

-- the base, where it is a node, or a node that a listing finds below it, stands at p
abbrev pub HasNodeAt : Contents → MetadataRetrieveVersion → Path → Path → Type 0
HasNodeAt s v b p = (m : NodeMetadata) × HasNode s v b (p, m)

-- n pairs have P
abbrev pub IsCount : (Pair → Type 0) → ℕ → Type 0
IsCount P n = (es : List Pair) × Lists P es × (n ≡ length es)

-- Of the store at b and below it the check has exactly these: whether the base is a node or why it is none, the
-- number of the nodes,
-- the ignored paths, and how many paths with documents are below them, the bad documents, and how many are below
-- them, the bad names, and what there is
-- to tell of nodes by their own documents, and the nodes whose names differ in case alone. What it tells of blocks is
-- said by `AreBlockFindings`.
pub record IsCheckOf (s : Contents) (v : MetadataRetrieveVersion) (b : Path) (c : Check) : Type 0 where
  pub path : c.path ≡ b
  pub base : IsBaseFault s v b c.base_fault
  pub nodes : IsCount (HasNode s v b) c.nodes
  pub ignored : Lists (Ignored s v true b) c.ignored.items
  pub ignored_ascend : PathsAscend c.ignored.items
  pub orphans : Lists (IsOrphan s v b) c.orphans.items
  pub orphans_ascend : AllPairs (λ o u. path_cmp o.0 u.0 ≡ Less) c.orphans.items
  pub bad_documents : Lists (BadDocuments s v b) c.bad_documents
  pub hidden : AreHidden s c.bad_documents c.hidden.items
  pub bad_names : Lists (BadNames s v b) c.bad_names.items
  pub bad_names_ascend : PathsAscend c.bad_names.items
  pub told : Lists (IsNodeTold s v b) c.told.items
  pub told_ascend : AllPairs IsToldBefore c.told.items
  pub alike : AreAlikeAmong (HasNodeAt s v b) c.alike.items
