-- What a command writes about a store: the paths of its nodes, as the Zarr core specification 3.1 defines nodes,
-- children and paths in "Hierarchy",
-- the text of a hierarchy, and the consolidated block of a group in the form of zarr-python.
-- <https://zarr-specs.readthedocs.io/en/latest/v3/core/index.html#hierarchy>
-- <https://zarr.readthedocs.io/en/stable/user-guide/consolidated_metadata/>
--     word_text w, IsCommand words      how a word is written; words that are a command's
--     IsListing, IsBlockText      what the words write of a path
--     in_whole_numbers values      the store that holds this, as the program reads it
--     Writes w, IsOutput words      the text that a word writes of a path; the text that a command's words write
--     WritesAnswer words left      what a run writes that ends well
use Rattle.std.specs.Prelude.{◌≡◌, ℕ, Bool, true, false, List, [], ◌∷◌, ◌++◌, codes, Option}
use Rattle.std.specs.List.{flat_map}
use Rattle.std.specs.Io.KnownBytes.{Appends}
use Rattle.zarrs_fault.specs.declared.numbers.Numbers.TheVariants.{Whole}
use Rattle.zarrs_store.specs.Contents.{Contents, Lists, Values}
use Rattle.zarrs_path.specs.Paths.{Path, IsPath, path_text}
use Rattle.zarrs_meta.specs.declared.node.GroupMetadata.{GroupMetadata}
use Rattle.zarrs_meta.specs.declared.node.NodeMetadata.TheVariants.{Group}
use Rattle.zarrs_config.specs.declared.version.MetadataRetrieveVersion.TheVariants.{Default}
use Rattle.zarrs_config.specs.declared.version.UseConsolidatedMetadata.TheVariants.{Auto}
use Rattle.zarrs_block.specs.Block.{Block, IsAscending, IsBlockOf, block_tree}
use Rattle.zarrs_meaning.specs.Meaning.{meaning, node}
use Rattle.zarrs_node.specs.Order.{Ascend}
use Rattle.zarrs_node.specs.Nodes.{Nodes, HasNothingBad}
use Rattle.zarrs_group.specs.StoredTexts.{pretty_text}
use Rattle.zarrs_hierarchy.specs.OpeningHierarchies.{IsOpenedTree}
use Rattle.zarrs_load.specs.Image.{IsLoaded}
-- the texts of words
pub use Rattle.zarrs_program.specs.Words.{texts}
use Rattle.zarrs_tool.specs.declared.run.Word.{Word}
use Rattle.zarrs_tool.specs.declared.run.Word.TheVariants.{Children, List as ListAll, Tree, Consolidate}
use Rattle.zarrs_fault.specs.Bytes.{newline}
use Rattle.zarrs_meaning.specs.Meaning.{Pair}

-- how a command's first word is written
abbrev pub word_text : Word → List ℕ
word_text Children = codes "children"
word_text ListAll = codes "list"
word_text Tree = codes "tree"
word_text Consolidate = codes "consolidate"

-- the words are a command's: `children PATH`, `list PATH`, `tree PATH` or `consolidate PATH`
abbrev pub IsCommand : List (List ℕ) → Type 0
IsCommand words = (word : Word) × (path : List ℕ) × (words ≡ word_text word ∷ path ∷ [])

-- the paths of the nodes, one a line
abbrev pub path_lines : List Pair → List ℕ
path_lines nodes = flat_map (λ n. path_text n.0 ++ newline ∷ []) nodes

-- the text is the lines of the paths of the nodes below the base, one level or all, each once, in path order, and
-- nothing on the way is bad
pub record IsListing (store : Contents) (recursive : Bool) (base : Path) (text : List ℕ) : Type 0 where
  pub nodes : List Pair
  pub lists : Lists (Nodes store Default recursive base) nodes
  pub ascend : Ascend nodes
  pub is : text ≡ path_lines nodes
  pub clean : HasNothingBad store Default recursive base

-- the base means a group, and the text is the pretty layout of the block that holds exactly the nodes that a listing
-- finds below the base, and a
-- newline; nothing on the way is bad
pub record IsBlockText (store : Contents) (base : Path) (text : List ℕ) : Type 0 where
  pub group : GroupMetadata
  pub means : meaning store Default base ≡ node (Group group)
  pub block : Block
  pub ascending : IsAscending block
  pub holds : IsBlockOf (Nodes store Default true base) base block
  pub is : text ≡ pretty_text (block_tree block) ++ newline ∷ []
  pub clean : HasNothingBad store Default true base

-- what a word writes of a path; `tree` that of the hierarchy that is opened there with a block used where there is one
abbrev pub Writes : Word → Contents → Path → List ℕ → Type 0
Writes Children store base text = IsListing store false base text
Writes ListAll store base text = IsListing store true base text
Writes Tree store base text = IsOpenedTree store Default Auto base text
Writes Consolidate store base text = IsBlockText store base text

-- what the words write about a store
abbrev pub IsOutput : List (List ℕ) → Contents → List ℕ → Type 0
IsOutput words store text =
    (word : Word) × (base : Path) × IsPath base × (words ≡ word_text word ∷ path_text base ∷ [])
    × Writes word store base text

-- the words' output was appended to what the writer held
abbrev pub WritesOutput : List (List ℕ) → Contents → Option (List ℕ) → Option (List ℕ) → Type 0
WritesOutput words store before after = (text : List ℕ) × IsOutput words store text × Appends before after text

-- ---- of a run

-- the store that holds this, and whose documents may hold whole numbers only: as the program reads images and folders
abbrev pub in_whole_numbers : Values → Contents
in_whole_numbers values = record { values = values; numbers = Whole }

-- the words' output over the store of the image that a reader had left, in whole numbers
abbrev pub WritesOfImage : List (List ℕ) → Option (List ℕ) → Option (List ℕ) → Option (List ℕ) → Type 0
WritesOfImage words left before after =
    (values : Values) × IsLoaded left values × WritesOutput words (in_whole_numbers values) before after
