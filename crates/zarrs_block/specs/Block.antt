-- Zarr core specification 3.1, "Group metadata", with zarr-python's field `consolidated_metadata`: blocks of metadata,
-- and what their keys mean below a base.
-- <https://zarr-specs.readthedocs.io/en/latest/v3/core/index.html#group-metadata>
-- <https://zarr.readthedocs.io/en/stable/user-guide/consolidated_metadata/>
--     Block, node_at_key B t, put t m B      texts with metadata; what a block has at a text; the block with one more
--     IsValidKey t, HasValidKeys B      what a block may have as a key; that each key is such
--     entry B ns, Entries B b      what a block has for the path that is ns beyond the base; all pairs below b that
-- it has
--     IsBlockOf N b B      B holds exactly the pairs of N, each at its names beyond b
--     block_of_in numbers d, block_of d      the block that a JSON value is where it may hold these numbers, or the
-- first fault; where they have to be whole
--     block_tree B      what is written of a block
use Rattle.std.specs.Prelude.{◌≡◌, ℕ, false, if◌then◌else◌, List, [], ◌∷◌, ◌++◌, Option, Some, None, Result, All}
use Rattle.std.specs.Prelude.{IsTrue, IsSome, ◌⊎◌, ◌↔◌, option_and_then, bytes_eq, codes}
use Rattle.std.specs.Result.{result_ok}
use Rattle.std.specs.Map.{lookup, keys_of}
use Rattle.std.specs.BTreeMap.{insert_entry, is_at}
use Rattle.serde_json.specs.Data.{Data, boolean, string, object, Members, no_members, member}
use Rattle.serde_json.specs.Find.{as_object}
use Rattle.std.specs.List.Sorted.{IsStrictlySortedBy}
use Rattle.zarrs_store.specs.Segments.{bytes_cmp, key_text}
use Rattle.zarrs_fault.specs.declared.fault.MetadataFault.{MetadataFault}
use Rattle.zarrs_fault.specs.declared.numbers.Numbers.{Numbers}
use Rattle.zarrs_fault.specs.declared.numbers.Numbers.TheVariants.{Whole}
use Rattle.zarrs_path.specs.Paths.{Path, IsPath}
use Rattle.zarrs_form.specs.Documents.{document_in, required_member, optional_member}
use Rattle.zarrs_form.specs.Documents as steps
use Rattle.zarrs_form.specs.Forms.{◌>>=◌}
use Rattle.zarrs_meta.specs.Node.{node_in, node_tree, is_plain_node_in}
use Rattle.zarrs_meta.specs.declared.node.NodeMetadata.{NodeMetadata}
use Rattle.zarrs_fault.specs.Bytes.{slash}
use Rattle.zarrs_meaning.specs.Meaning.{Pair}

-- texts, the keys, with the metadata at each, in the order of the keys
abbrev pub Block : Type 0
Block = List (List ℕ × NodeMetadata)

-- the keys of the block ascend by their bytes, so each stands once
abbrev pub IsAscending : Block → Type 0
IsAscending B = IsStrictlySortedBy bytes_cmp (keys_of B)

-- what the block has at a text
abbrev pub node_at_key : Block → List ℕ → Option NodeMetadata
node_at_key B t = lookup (is_at (bytes_cmp t)) B

-- the block with metadata at a text, in the place of those that it had there
abbrev pub put : List ℕ → NodeMetadata → Block → Block
put t m B = insert_entry bytes_cmp B t m

-- ---- keys and paths

-- names joined by slashes, or none, also behind one slash
abbrev pub IsValidKey : List ℕ → Type 0
IsValidKey t = (ns : Path) × IsPath ns × ((t ≡ key_text ns) ⊎ (t ≡ slash ∷ key_text ns))

-- each key of the block is valid
abbrev pub HasValidKeys : Block → Type 0
HasValidKeys B = (t : List ℕ) → IsSome (node_at_key B t) → IsValidKey t

-- the first, where there is one, and else the second
abbrev pub first_some : Option NodeMetadata → Option NodeMetadata → Option NodeMetadata
first_some (Some m) other = Some m
first_some None other = other

-- what the block has at the names joined by slashes, and where it has nothing there, behind one slash
abbrev pub entry : Block → Path → Option NodeMetadata
entry B ns = first_some (node_at_key B (key_text ns)) (node_at_key B (slash ∷ key_text ns))

-- the paths below b, each with the entry of its names beyond b
abbrev pub Entries : Block → Path → Pair → Type 0
Entries B b e = (n : List ℕ) × (ns : Path) × IsPath (n ∷ ns) × (e.0 ≡ b ++ n ∷ ns) × (entry B (n ∷ ns) ≡ Some e.1)

-- the block holds exactly the pairs of N, each at the text of its names beyond b
abbrev pub IsBlockOf : (Pair → Type 0) → Path → Block → Type 0
IsBlockOf N b B =
    (t : List ℕ) (m : NodeMetadata) → (node_at_key B t ≡ Some m)
    ↔ ((n : List ℕ) × (ns : Path) × (t ≡ key_text (n ∷ ns)) × N (b ++ n ∷ ns, m))

-- ---- reading

-- the text `inline`
abbrev pub inline : Data → Option (Unit {0})
inline (string s) = if bytes_eq s (codes "inline") then Some tt else None
inline _ = None

-- the truth value false
abbrev pub untrue : Data → Option (Unit {0})
untrue (boolean false) = Some tt
untrue _ = None

-- all members as whole node documents that may hold these numbers, each at its name, or nothing where one does not read
abbrev pub nodes_in : Numbers → Members → Option Block
nodes_in numbers no_members = Some []
nodes_in numbers (member t d ms) = do
  m ← result_ok (node_in numbers d)
  B ← nodes_in numbers ms
  Some ((t, m) ∷ B)

-- an object of whole node documents that may hold these numbers
abbrev pub nodes : Numbers → Data → Option Block
nodes numbers d = option_and_then (nodes_in numbers) (as_object d)

-- the block that a JSON value is where it may hold these numbers, or its first fault
unfoldable pub block_of_in : Numbers → Data → Result Block MetadataFault
block_of_in numbers d =
    steps.◌>>=◌ (document_in numbers d) λ _.
    steps.◌>>=◌ (required_member (codes "kind") inline d) λ _.
    steps.◌>>=◌ (optional_member (codes "must_understand") tt untrue d) λ _.
    required_member (codes "metadata") (nodes numbers) d

-- the block that a JSON value is where its numbers have to be whole, or its first fault
abbrev pub block_of : Data → Result Block MetadataFault
block_of d = block_of_in Whole d

-- ---- the written form

-- each node as its document, at its key
abbrev pub documents : Block → Members
documents [] = no_members
documents (e ∷ B) = member e.0 (node_tree e.1) (documents B)

-- a block with these documents is written as an object with `kind`, `metadata` and `must_understand`
abbrev pub inline_block : Members → Data
inline_block ms =
    object (member (codes "kind") (string (codes "inline")) (member (codes "metadata") (object ms)
    (member (codes "must_understand") (boolean false) no_members)))

-- what is written of a block
abbrev pub block_tree : Block → Data
block_tree B = inline_block (documents B)

-- each node of the block could have come from a document that may hold these numbers
abbrev pub HasPlainNodesIn : Numbers → Block → Type 0
HasPlainNodesIn numbers B = All (λ e. IsTrue (is_plain_node_in numbers e.1)) B
