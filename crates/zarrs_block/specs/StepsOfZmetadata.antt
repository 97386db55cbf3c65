-- The version 2 convention of consolidated metadata, the document `.zmetadata` of a group: the parts of its reader,
-- by look-ups.
--     member_at ms t file      a document of version 2 that members have for the text of a path
--     AllFit numbers document      each number of the documents of a path is one of these
--     read_files numbers document      the node that the documents of a path are where they may hold these numbers,
-- or nothing, or the first fault
--     tree_among runs t file      a document that runs have for a text
--     gathered_at runs run t file      a document that a run has for a text, or that the runs before it have
--     RunsAscend runs      the paths of the runs ascend
--     IsPlace t r      the path and the file that a member's name tells, where it counts below the group
--     are_named ms, RefusesNames ms      the names that count below the group are those of nodes; that they are not
use Rattle.std.specs.Prelude.{◌≡◌, ◌≢◌, ◌⊎◌, IfSome, ℕ, Bool, true, false, not, ◌&&◌, List, [], ◌∷◌, ◌++◌, map, Option}
use Rattle.std.specs.Prelude.{Some, None, Result, Ok, Err, option_map, if◌then◌else◌, string_bytes, codes, bytes_eq}
use Rattle.std.specs.Prelude.{All, IsTrue}
use Rattle.std.specs.List.{list_all}
use Rattle.std.specs.Result.{result_ok}
use Rattle.std.specs.List.Sorted.{IsStrictlySortedBy}
use Rattle.std.specs.Ordering.{is_lt}
use denote.Ref.{Bor}
use Rattle.serde_json.specs.Data.{Data, Members}
use Rattle.serde_json.specs.Find.{get_member, as_object}
use Rattle.serde_json.specs.View.{view}
use Rattle.zarrs_store.specs.Segments.{bytes_cmp, last_segment}
use Rattle.zarrs_fault.specs.declared.fault.MetadataFault.{MetadataFault}
use Rattle.zarrs_fault.specs.declared.fault.MetadataFault.TheVariants.{BadMember, OutOfMemory}
use Rattle.zarrs_fault.specs.declared.numbers.Numbers.{Numbers}
use Rattle.zarrs_path.specs.Keys.{zarray, zgroup, zattrs}
use Rattle.zarrs_path.specs.Names.{is_name}
use Rattle.zarrs_path.specs.Paths.{IsPath}
use Rattle.zarrs_form.specs.Documents as steps
use Rattle.zarrs_form.specs.Documents.{required_member}
use Rattle.zarrs_form.specs.Forms.{fits_in, is_nil}
use Rattle.zarrs_meta.specs.ArrayV2.{array_v2_in}
use Rattle.zarrs_meta.specs.GroupV2.{group_v2_in}
use Rattle.zarrs_meta.specs.Attributes.{attributes_document_in}
use Rattle.zarrs_meta.specs.Node.{array_with, group_with}
use Rattle.zarrs_meta.specs.declared.attributes.AttributesDocument.{AttributesDocument}
use Rattle.zarrs_meta.specs.declared.node.ArrayMetadata.TheVariants.{V2 as array_v2}
use Rattle.zarrs_meta.specs.declared.node.GroupMetadata.TheVariants.{V2 as group_v2}
use Rattle.zarrs_meta.specs.declared.node.NodeMetadata.{NodeMetadata}
use Rattle.zarrs_meta.specs.declared.node.NodeMetadata.TheVariants.{Group, Array}
use Rattle.zarrs_block.specs.Block.{Block}
use Rattle.zarrs_meaning.specs.Small.{is_document_v2}
use Rattle.zarrs_store.specs.Segments.{stretches}
use Rattle.zarrs_block.specs.Zmetadata.{one, before_last, documents_below, small_block_in, is_version_2}
use Rattle.zarrs_block.specs.declared.zmetadata.Documents.{Documents}
use Rattle.zarrs_block.specs.declared.zmetadata.File.{File}
use Rattle.zarrs_block.specs.declared.zmetadata.Run.{Run}
use Rattle.zarrs_block.specs.declared.zmetadata.File.TheVariants.{Array as array_file, Group as group_file}
use Rattle.zarrs_block.specs.declared.zmetadata.File.TheVariants.{Attributes as attributes_file}
use Rattle.zarrs_meaning.specs.declared.node_create_error.NodeCreateError.{NodeCreateError}
use Rattle.zarrs_meaning.specs.declared.node_create_error.NodeCreateError.TheVariants.{MetadataVersionMismatch}
use Rattle.zarrs_meaning.specs.declared.node_create_error.NodeCreateError.TheVariants.{OutOfMemory}
use Rattle.zarrs_fault.specs.Bytes.{slash}
use Rattle.zarrs_meaning.specs.Meaning.{Pair}

-- ---- the documents of one path

-- the name of a file
abbrev pub file_name : File → List ℕ
file_name array_file = zarray
file_name group_file = zgroup
file_name attributes_file = zattrs

-- the files are the same
abbrev pub is_file : File → File → Bool
is_file file other = bytes_eq (file_name file) (file_name other)

-- the document of this name that members have for a text: at it, a slash and the name
abbrev pub member_at : Members → List ℕ → File → Option Data
member_at ms t file = get_member (t ++ slash ∷ file_name file) ms

-- a document with the attributes beside it, where there are any, both of which may hold these numbers, or the first
-- fault
abbrev pub read_with : {D : Type 0} → Numbers → (Numbers → Data → Result D MetadataFault) → (D → NodeMetadata)
    → (AttributesDocument → D → D) → Data → Option Data → Result NodeMetadata MetadataFault
read_with numbers document kind with d None = steps.◌>>=◌ (document numbers d) λ m. Ok (kind m)
read_with numbers document kind with d (Some a) =
    steps.◌>>=◌ (document numbers d) λ m. steps.◌>>=◌ (attributes_document_in numbers a) λ x. Ok (kind (with x m))

-- the array of the first, or else the group of the second, or else nothing, or the first fault
abbrev pub read_documents : Numbers → Option Data → Option Data → Option Data
    → Result (Option NodeMetadata) MetadataFault
read_documents numbers (Some d) group attributes =
    steps.◌>>=◌ (read_with numbers array_v2_in (λ m. Array (array_v2 m)) array_with d attributes) λ m. Ok (Some m)
read_documents numbers None (Some d) attributes =
    steps.◌>>=◌ (read_with numbers group_v2_in (λ m. Group (group_v2 m)) group_with d attributes) λ m. Ok (Some m)
read_documents numbers None None attributes = Ok None

-- the node that the documents of the three files are where they may hold these numbers, or nothing, or the first fault
abbrev pub read_files : Numbers → (File → Option Data) → Result (Option NodeMetadata) MetadataFault
read_files numbers document =
    read_documents numbers (document array_file) (document group_file) (document attributes_file)

-- each number of the documents of the three files is one of these
abbrev pub AllFit : Numbers → (File → Option Data) → Type 0
AllFit numbers document = (file : File) → IfSome (document file) (λ d. IsTrue (fits_in numbers d))

-- ---- the documents of all paths

-- the document of a file
abbrev pub tree_in : Documents → File → Option Data
tree_in all array_file = option_map view all.array
tree_in all group_file = option_map view all.group
tree_in all attributes_file = option_map view all.attributes

-- the first, where there is one, and else the second
abbrev pub first_tree : Option Data → Option Data → Option Data
first_tree (Some d) other = Some d
first_tree None other = other

-- the document of a file that a run has for a text: where this is that of its path
abbrev pub run_tree : Run → List ℕ → File → Option Data
run_tree run t file = if bytes_eq (string_bytes run.path) t then tree_in run.documents file else None

-- the document of a file that runs have for a text: of those that have one, that of the last
abbrev pub tree_among : List Run → List ℕ → File → Option Data
tree_among [] t file = None
tree_among (run ∷ runs) t file = first_tree (tree_among runs t file) (run_tree run t file)

-- the document of a file that a run has for a text, and else the one that the runs before it have
abbrev pub gathered_at : List Run → Run → List ℕ → File → Option Data
gathered_at runs run t file = first_tree (run_tree run t file) (tree_among runs t file)

-- the path of the first is before that of the second
abbrev pub is_before : Run → Run → Bool
is_before a b = is_lt (bytes_cmp (string_bytes a.path) (string_bytes b.path))

-- the paths of the runs, as texts
abbrev pub paths : List Run → List (List ℕ)
paths runs = map (λ run. string_bytes run.path) runs

-- the paths ascend, so each stands once
abbrev pub RunsAscend : List Run → Type 0
RunsAscend runs = IsStrictlySortedBy bytes_cmp (paths runs)

-- the next run, to which a run of the same path was joined; or behind which, with another path, it was put among
-- those before
abbrev pub IsJoined : Run → Run → List Run → List Run → Run → Type 0
IsJoined run next old new now =
    ((new ≡ old) × (string_bytes run.path ≡ string_bytes next.path) × (string_bytes now.path ≡ string_bytes next.path)
    × ((file : File)
    → tree_in now.documents file ≡ first_tree (tree_in next.documents file) (tree_in run.documents file)))
    ⊎ ((new ≡ old ++ run ∷ []) × (string_bytes run.path ≢ string_bytes next.path) × (now ≡ next))

-- ---- the names of members

-- the name is that of a document of version 2 below the group
abbrev pub is_below_group : List ℕ → Bool
is_below_group t = is_document_v2 (last_segment (stretches t)) && not (is_nil (before_last (stretches t)))

-- what a name of a file tells: which one it is, or that it is none
abbrev pub IsFile : List ℕ → Option File → Type 0
IsFile t None = is_document_v2 t ≡ false
IsFile t (Some file) = t ≡ file_name file

-- what a member's name tells: that it does not count below the group, or the text of the path, whose parts are names,
-- and the file, or that they are no names
abbrev pub IsPlace : List ℕ → Result (Option (Bor (List ℕ) × File)) MetadataFault → Type 0
IsPlace t (Ok None) = is_below_group t ≡ false
IsPlace t (Ok (Some place)) = (t ≡ place.0.now ++ slash ∷ file_name place.1) × IsPath (stretches place.0.now)
IsPlace t (Err (BadMember name)) =
    (name ≡ codes "metadata") × (is_below_group t ≡ true) × (list_all is_name (before_last (stretches t)) ≡ false)
IsPlace t (Err _) = ⊥

-- the names that count below the group are those of nodes
abbrev pub are_named : Members → Bool
are_named ms = list_all (λ e. list_all is_name (before_last e.0)) (documents_below ms)

-- a name that counts below the group is that of no node; or out of memory
abbrev pub RefusesNames : Members → MetadataFault → Type 0
RefusesNames ms (BadMember name) = (name ≡ codes "metadata") × (are_named ms ≡ false)
RefusesNames ms OutOfMemory = Unit {0}
RefusesNames ms _ = ⊥

-- ---- the nodes

-- what the block has at each text is what the documents at it are read as
abbrev pub HoldsNodes : Numbers → (List ℕ → File → Option Data) → (List ℕ → Option NodeMetadata) → Type 0
HoldsNodes numbers document at = (t : List ℕ) → result_ok (read_files numbers (document t)) ≡ Some (at t)

-- the documents at some text do not read; or out of memory
abbrev pub RefusesTrees : Numbers → (List ℕ → File → Option Data) → MetadataFault → Type 0
RefusesTrees numbers document (BadMember name) =
    (name ≡ codes "metadata") × ((t : List ℕ) × (result_ok (read_files numbers (document t)) ≡ None))
RefusesTrees numbers document OutOfMemory = Unit {0}
RefusesTrees numbers document _ = ⊥

-- the block of the members of a document that may hold these numbers, or the first fault
abbrev pub zmetadata_taken : Numbers → Data → Result Block MetadataFault
zmetadata_taken numbers d =
    steps.◌>>=◌ (required_member (codes "zarr_consolidated_format") one d) λ _.
    steps.◌>>=◌ (required_member (codes "metadata") as_object d) (small_block_in numbers)

-- the node is of version 3, or out of memory
abbrev pub RefusesWritingNode : NodeMetadata → NodeCreateError → Type 0
RefusesWritingNode m MetadataVersionMismatch = is_version_2 m ≡ false
RefusesWritingNode m OutOfMemory = Unit {0}
RefusesWritingNode m _ = ⊥

-- some node is of version 3, or out of memory
abbrev pub RefusesWritingNodes : List Pair → NodeCreateError → Type 0
RefusesWritingNodes es MetadataVersionMismatch = All (λ e. IsTrue (is_version_2 e.1)) es → ⊥
RefusesWritingNodes es OutOfMemory = Unit {0}
RefusesWritingNodes es _ = ⊥
