-- The version 2 convention of consolidated metadata, the document `.zmetadata` of a group (zarr-python, "Consolidated
-- metadata"): how it is read as a block, and how it is written.
-- <https://zarr.readthedocs.io/en/stable/user-guide/consolidated_metadata/>
--     HoldsStoreIn, IsCleanIn      what the block of a document has and that nothing below the group is bad, as of
-- any store
--     IsZmetadataFaultIn      what refuses a document
--     zmetadata_in numbers d      the block that a document is where it may hold these numbers, or its first fault
--     ZmetadataHoldsIn, OneBlockHoldsStoreIn      that it is the one block that holds the store and whose keys ascend
--     zmetadata_tree g B      what is written of a group of version 2 and its block
--     IsWrittenOf g B d      what the written document has at each key
--     RefusesZmetadata      what refuses its writing
--     HoldsDocuments, WrittenHoldsDocuments, WrittenReadsBack      what the written document has, and that it reads
-- back
use Rattle.std.specs.Prelude.{if◌then◌else◌, ◌≡◌, ◌≢◌, ◌⊎◌, ◌↔◌, ◌==◌, ℕ, Bool, true, false, not, ◌&&◌, List, [], ◌∷◌}
use Rattle.std.specs.Prelude.{◌++◌, Option, Some, None, option_and_then, IsSome, Result, Ok, Err, All, IsTrue, bytes_eq}
use Rattle.std.specs.Prelude.{codes}
use Rattle.std.specs.List.{list_all, filter}
use Rattle.std.specs.Map.{lookup}
use Rattle.serde_json.specs.Data.{Data, number, unsigned, object, Members, no_members, member, put as put_member}
use Rattle.serde_json.specs.Find.{as_object, get_member}
use Rattle.zarrs_store.specs.Segments.{Segments, key_text}
use Rattle.zarrs_fault.specs.declared.fault.MetadataFault.{MetadataFault}
use Rattle.zarrs_fault.specs.declared.fault.MetadataFault.TheVariants.{BadMember}
use Rattle.zarrs_fault.specs.declared.numbers.Numbers.{Numbers}
use Rattle.zarrs_path.specs.Keys.{zarray, zgroup, zattrs}
use Rattle.zarrs_path.specs.Names.{is_name}
use Rattle.zarrs_path.specs.Paths.{Path, IsPath}
use Rattle.zarrs_form.specs.Documents.{document_in, required_member, is_empty}
use Rattle.zarrs_form.specs.Documents as steps
use Rattle.zarrs_form.specs.Forms.{number_u64, is_nil}
use Rattle.zarrs_meta.specs.ArrayV2.{array_v2_tree}
use Rattle.zarrs_meta.specs.GroupV2.{group_v2_tree, is_plain_group_v2_in}
use Rattle.zarrs_meta.specs.Node.{array_without_attributes, group_without_attributes, is_plain_node_in}
use Rattle.zarrs_meta.specs.declared.group_v2.GroupMetadataV2.{GroupMetadataV2}
use Rattle.zarrs_meta.specs.declared.node.ArrayMetadata.TheVariants.{V2 as array_v2, V3 as array_v3}
use Rattle.zarrs_meta.specs.declared.node.GroupMetadata.TheVariants.{V2 as group_v2, V3 as group_v3}
use Rattle.zarrs_meta.specs.declared.node.NodeMetadata.{NodeMetadata}
use Rattle.zarrs_meta.specs.declared.node.NodeMetadata.TheVariants.{Group, Array}
use Rattle.zarrs_block.specs.Block.{Block, IsAscending, IsBlockOf, put, entry, Entries, HasValidKeys}
use Rattle.zarrs_block.specs.BlockExpansion.{RefusesKeys, pairs_at, paths_at}
use Rattle.zarrs_meaning.specs.declared.node_create_error.NodeCreateError.{NodeCreateError}
use Rattle.zarrs_meaning.specs.declared.node_create_error.NodeCreateError.TheVariants.{MetadataVersionMismatch}
use Rattle.zarrs_meaning.specs.Meaning.{Meaning, Pair, Means, node, bad, is_bad}
use Rattle.zarrs_meaning.specs.Small.{is_document_v2, counted_members, small, small_meaning_in}

-- ---- reading

-- the number 1
abbrev pub one : Data → Option (Unit {0})
one d = option_and_then (λ n. if n == 1 then Some tt else None) (number_u64 d)

-- the members of the document of format 1 where it may hold these numbers, or the first fault
abbrev pub zmetadata_members_in : Numbers → Data → Result Members MetadataFault
zmetadata_members_in numbers d =
    steps.◌>>=◌ (document_in numbers d) λ _.
    steps.◌>>=◌ (required_member (codes "zarr_consolidated_format") one d) λ _.
    required_member (codes "metadata") as_object d

-- all segments but the last
abbrev pub before_last : Segments → Segments
before_last [] = []
before_last (s ∷ []) = []
before_last (s ∷ t ∷ ss) = s ∷ before_last (t ∷ ss)

-- ---- what is read, as what a store is

-- the block has exactly the paths below any base that mean nodes in the small store behind it, whose documents may
-- hold these numbers, with their metadata
abbrev pub HoldsStoreIn : Numbers → Members → Block → Type 0
HoldsStoreIn numbers ms B = (b : Path) → IsBlockOf (Means (small_meaning_in numbers (small b ms))) b B

-- below no base a path is bad in the small store behind it, whose documents may hold these numbers, and each document
-- that counts stands below names
pub record IsCleanIn (numbers : Numbers) (ms : Members) : Type 0 where
  pub means : (b : Path) (n : List ℕ) (ns : Path) (e : NodeCreateError)
      → small_meaning_in numbers (small b ms) (b ++ n ∷ ns) ≢ bad e
  pub named : All (λ e. IsPath (before_last e.0)) (counted_members ms)

-- the document, which may hold these numbers, is none of format 1, and this is its first fault; or it has members
-- that are no clean store, and the fault is `BadMember` of `metadata`, the member that has them
abbrev pub IsZmetadataFaultIn : Numbers → Data → MetadataFault → Type 0
IsZmetadataFaultIn numbers d fault =
    (zmetadata_members_in numbers d ≡ Err fault)
    ⊎ ((ms : Members) × (zmetadata_members_in numbers d ≡ Ok ms) × (IsCleanIn numbers ms → ⊥)
    × (fault ≡ BadMember (codes "metadata")))

-- ---- the block as a function of the document: it is the one block that holds the store of the members and whose keys
-- ---- ascend, as `ZmetadataHoldsIn` and `OneBlockHoldsStoreIn` say

-- the documents that count below the group: those of the group itself have one segment alone
abbrev pub documents_below : Members → List (Segments × Data)
documents_below ms = filter (λ e. not (is_nil (before_last e.0))) (counted_members ms)

-- the segments before the last are names, and their path is not bad
abbrev pub is_good : (Path → Meaning) → Segments → Bool
is_good of k = list_all is_name (before_last k) && not (is_bad (of (before_last k)))

-- the block with what a path means, where it means a node
abbrev pub with_node : Path → Meaning → Block → Block
with_node p (node m) B = put (key_text p) m B
with_node p _ B = B

-- the block of what the paths of these documents mean, where they mean nodes, each at its names
abbrev pub block_from : (Path → Meaning) → List (Segments × Data) → Block
block_from of [] = []
block_from of (e ∷ es) = with_node (before_last e.0) (of (before_last e.0)) (block_from of es)

-- the block of what the paths below the group mean, where each document there is good
abbrev pub block_where_good : (Path → Meaning) → List (Segments × Data) → Result Block MetadataFault
block_where_good of es =
    if list_all (λ e. is_good of e.0) es then Ok (block_from of es) else Err (BadMember (codes "metadata"))

-- the block of the nodes below the group, whose documents may hold these numbers, where none is bad
abbrev pub small_block_in : Numbers → Members → Result Block MetadataFault
small_block_in numbers ms = block_where_good (small_meaning_in numbers (small [] ms)) (documents_below ms)

-- the block that a document `.zmetadata` is where it may hold these numbers, or its first fault
unfoldable pub zmetadata_in : Numbers → Data → Result Block MetadataFault
zmetadata_in numbers d = steps.◌>>=◌ (zmetadata_members_in numbers d) (small_block_in numbers)

-- A document that reads as a block where it may hold these numbers has members; the block holds the store that they
-- are, in which nothing is bad, and the keys of the block ascend.
abbrev pub ZmetadataHoldsIn : Numbers → Type 0
ZmetadataHoldsIn numbers = (d : Data) (B : Block) → zmetadata_in numbers d ≡ Ok B
    → ((ms : Members) × (zmetadata_members_in numbers d ≡ Ok ms) × HoldsStoreIn numbers ms B × IsCleanIn numbers ms)
    × IsAscending B

-- A document whose members are a store in which nothing is bad, where all may hold these numbers, reads as the block
-- that holds that store and whose keys ascend: there is no other.
abbrev pub OneBlockHoldsStoreIn : Numbers → Type 0
OneBlockHoldsStoreIn numbers =
    (d : Data) (ms : Members) (B : Block) → zmetadata_members_in numbers d ≡ Ok ms → IsCleanIn numbers ms
    → HoldsStoreIn numbers ms B → IsAscending B → zmetadata_in numbers d ≡ Ok B

-- ---- the written form

-- attributes have a document of their own, where there are some
abbrev pub attributes_written : Members → List (List ℕ × Data)
attributes_written attributes = if is_empty attributes then [] else (zattrs, object attributes) ∷ []

-- the documents of version 2 of a node, each under its name: its own without attributes, and its attributes; a node
-- of version 3 has none
abbrev pub node_written : NodeMetadata → List (List ℕ × Data)
node_written (Group (group_v2 m)) =
    (zgroup, group_v2_tree (group_without_attributes m)) ∷ attributes_written m.attributes
node_written (Group (group_v3 m)) = []
node_written (Array (array_v2 m)) =
    (zarray, array_v2_tree (array_without_attributes m)) ∷ attributes_written m.attributes
node_written (Array (array_v3 m)) = []

-- the members with documents put behind the names of a path
abbrev pub put_documents : Path → List (List ℕ × Data) → Members → Members
put_documents p [] ms = ms
put_documents p (e ∷ es) ms = put_member (key_text (p ++ e.0 ∷ [])) e.1 (put_documents p es ms)

-- the members that are the documents of these nodes
abbrev pub nodes_written : List Pair → Members
nodes_written [] = no_members
nodes_written (e ∷ es) = put_documents e.0 (node_written e.1) (nodes_written es)

-- the documents of a group of version 2, and of all entries of its block behind their names
abbrev pub documents_written : GroupMetadataV2 → Block → Members
documents_written g B = nodes_written (([], Group (group_v2 g)) ∷ pairs_at (paths_at [] B B) B)

-- an object with these members and with the format
abbrev pub zmetadata_with : Members → Data
zmetadata_with ms =
    object
    (member (codes "metadata") (object ms)
    (member (codes "zarr_consolidated_format") (number (unsigned 1)) no_members))

-- what is written of a group of version 2 and its block: an object with their documents and with the format
abbrev pub zmetadata_tree : GroupMetadataV2 → Block → Data
zmetadata_tree g B = zmetadata_with (documents_written g B)

-- the node is of version 2
abbrev pub is_version_2 : NodeMetadata → Bool
is_version_2 (Group (group_v2 m)) = true
is_version_2 (Group (group_v3 m)) = false
is_version_2 (Array (array_v2 m)) = true
is_version_2 (Array (array_v3 m)) = false

-- each entry is of version 2
abbrev pub HasVersion2 : Block → Type 0
HasVersion2 B = (e : Pair) → Entries B [] e → IsTrue (is_version_2 e.1)

-- a key of the block is not valid, and the error names its first part that is no name; or all are valid and an entry
-- is of version 3; or out of memory
abbrev pub RefusesZmetadata : Block → NodeCreateError → Type 0
RefusesZmetadata B MetadataVersionMismatch = HasValidKeys B × (HasVersion2 B → ⊥)
RefusesZmetadata B e = RefusesKeys B e

-- ---- the written form, as what a store holds

-- the node at some names: at none the group itself, and else the entry of the block
abbrev pub node_at : GroupMetadataV2 → Block → Path → Option NodeMetadata
node_at g B [] = Some (Group (group_v2 g))
node_at g B (n ∷ ns) = entry B (n ∷ ns)

-- the document of this name that is written of a node, if there is one
abbrev pub document_written : List ℕ → NodeMetadata → Option Data
document_written file m = lookup (bytes_eq file) (node_written m)

-- behind the names of each path the members have the documents of the node there, where there is one, and they have
-- no others
pub record HoldsDocuments (g : GroupMetadataV2) (B : Block) (ms : Members) : Type 0 where
  pub documents : (ns : Path) (file : List ℕ) → IsPath ns → IsTrue (is_document_v2 file)
      → get_member (key_text (ns ++ file ∷ [])) ms ≡ option_and_then (document_written file) (node_at g B ns)
  pub no_others : (t : List ℕ) → IsSome (get_member t ms)
      → (ns : Path) × (file : List ℕ) × IsPath ns × IsTrue (is_document_v2 file) × (t ≡ key_text (ns ++ file ∷ []))

-- the document is an object with the format and with members that hold the documents of the group and of the block's
-- entries
pub record IsWrittenOf (g : GroupMetadataV2) (B : Block) (d : Data) : Type 0 where
  pub members : Members
  pub is : d ≡ zmetadata_with members
  pub holds : HoldsDocuments g B members

-- ---- laws of the written form

-- What is written of a group and a block with valid keys holds their documents.
abbrev pub WrittenHoldsDocuments : Type 0
WrittenHoldsDocuments =
    (g : GroupMetadataV2) (B : Block) → IsAscending B → HasValidKeys B → HoldsDocuments g B (documents_written g B)

-- each entry could have come from a document that may hold these numbers
abbrev pub HasPlainEntriesIn : Numbers → Block → Type 0
HasPlainEntriesIn numbers B = (e : Pair) → Entries B [] e → IsTrue (is_plain_node_in numbers e.1)

-- two blocks have the same entries, below any base
abbrev pub HaveSameEntries : Block → Block → Type 0
HaveSameEntries B C = (b : Path) (e : Pair) → Entries C b e ↔ Entries B b e

-- What is written of a group and a block with valid keys, where the group and the entries are plain in these numbers
-- and the entries are of version 2, reads in them as a block with the same entries.
abbrev pub WrittenReadsBackIn : Numbers → Type 0
WrittenReadsBackIn numbers =
    (g : GroupMetadataV2) (B : Block) → IsTrue (is_plain_group_v2_in numbers g) → IsAscending B → HasValidKeys B
    → HasVersion2 B → HasPlainEntriesIn numbers B
    → (C : Block) × (zmetadata_in numbers (zmetadata_tree g B) ≡ Ok C) × HaveSameEntries B C
