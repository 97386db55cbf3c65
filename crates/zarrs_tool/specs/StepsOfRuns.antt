-- Steps of a run of the program: words and folders, and what its private calls write and refuse; no public contract
-- rests on them.
use Rattle.std.specs.Prelude.{◌≡◌, ◌⊎◌, ℕ, Some, List, [], ◌∷◌, ◌++◌, codes, Option, Bool, false, ⊤}
use Rattle.zarrs_store.specs.Contents.{Contents, Values}
use Rattle.zarrs_load.specs.Folder.{HoldsDocumentsAlone, IsFolderFault}
use Rattle.zarrs_tool.specs.declared.run.Word.TheVariants.{Children, List as ListAll, Tree, Consolidate}
use Rattle.zarrs_tool.specs.declared.run.Command.{Command}
use Rattle.zarrs_tool.specs.Output.{in_whole_numbers, word_text, IsCommand, WritesOutput, WritesOfImage}
use Rattle.zarrs_path.specs.Paths.{Path, path_text, relative_names}
use Rattle.zarrs_meta.specs.Node.{is_plain_node}
use Rattle.zarrs_meta.specs.declared.node.ArrayMetadata.{ArrayMetadata}
use Rattle.zarrs_meta.specs.declared.node.NodeMetadata.{NodeMetadata}
use Rattle.zarrs_meta.specs.declared.node.NodeMetadata.TheVariants.{Array}
use Rattle.zarrs_block.specs.Block.{Block, IsAscending, node_at_key}
use Rattle.zarrs_meaning.specs.Meaning.{meaning, node}
use Rattle.zarrs_meaning.specs.Refusals.{IsExcusedOr}
use Rattle.zarrs_node.specs.Nodes.{ShowsBad}
use Rattle.zarrs_node.specs.OpeningNodes.{RefusesOpening}
use Rattle.zarrs_meaning.specs.declared.node_create_error.NodeCreateError.{NodeCreateError}
use Rattle.zarrs_config.specs.declared.version.MetadataRetrieveVersion.TheVariants.{Default}
use Rattle.zarrs_config.specs.declared.version.UseConsolidatedMetadata.{UseConsolidatedMetadata}
use Rattle.zarrs_config.specs.declared.version.UseConsolidatedMetadata.TheVariants.{Auto, Never}
use Rattle.zarrs_tool.specs.declared.fault.ToolFault.{ToolFault}
use Rattle.zarrs_tool.specs.declared.fault.ToolFault.TheVariants.{NotAGroup, Fraction, Node, OutOfMemory}
use Rattle.zarrs_tool.specs.declared.run.Word.{Word}
use Rattle.zarrs_tool.specs.Refusals.{RefusesWord, ShowsFraction, IsRefusal, IsLoadFault, RefusedRun}

-- the words of a command
abbrev pub command_words : Command → List (List ℕ)
command_words command = word_text command.word ∷ command.path.now ∷ []

-- the words are `folder`, the folder, and `tree PATH`
abbrev pub IsFolderWords : List (List ℕ) → List ℕ → List (List ℕ) → Type 0
IsFolderWords words folder tree =
    (path : List ℕ) × (tree ≡ word_text Tree ∷ path ∷ []) × (words ≡ codes "folder" ∷ folder ∷ tree)

-- the words are `folder DIR tree PATH`
abbrev pub IsFolderCommand : List (List ℕ) → Type 0
IsFolderCommand words = (folder : List ℕ) × (tree : List (List ℕ)) × IsFolderWords words folder tree

-- the words are no command, neither over an image nor over a folder
abbrev pub IsNoCommand : List (List ℕ) → Type 0
IsNoCommand words = (IsCommand words → ⊥) × (IsFolderCommand words → ⊥)

-- the words' output over a store in which no key but a document's has bytes, as a folder's
abbrev pub WritesOfFolder : List (List ℕ) → Option (List ℕ) → Option (List ℕ) → Type 0
WritesOfFolder words before after =
    (values : Values) × HoldsDocumentsAlone values × WritesOutput words (in_whole_numbers values) before after

-- the output of a run that ends well: that over the image, or where the words are `folder DIR tree PATH` that of
-- `tree PATH` over the folder's store
abbrev pub WritesAnswer : List (List ℕ) → Option (List ℕ) → Option (List ℕ) → Option (List ℕ) → Type 0
WritesAnswer words left before after =
    WritesOfImage words left before after
    ⊎ ((folder : List ℕ) × (tree : List (List ℕ)) × IsFolderWords words folder tree × WritesOfFolder tree before after)

-- the fault holds an error that refuses; or says that there is no group, or names a path with a fraction, where that
-- may be said; or out of memory
abbrev pub IsFault : (NodeCreateError → Type 0) → Type 0 → (Path → Type 0) → ToolFault → Type 0
IsFault refuses no_group fraction (Node e) = refuses e
IsFault refuses no_group fraction NotAGroup = no_group
IsFault refuses no_group fraction (Fraction p) = fraction p
IsFault refuses no_group fraction OutOfMemory = ⊤
IsFault refuses no_group fraction _ = ⊥

-- opening the path is excused, as out of memory or the fault of a store that can fail, or it is refused by the first
-- reason that applies
abbrev pub RefusesOpen : Bool → Contents → UseConsolidatedMetadata → Path → NodeCreateError → Type 0
RefusesOpen can_fail store policy base = IsExcusedOr can_fail (RefusesOpening store Default policy (path_text base))

-- the path means an array
abbrev pub IsArray : Contents → Path → Type 0
IsArray store base = (a : ArrayMetadata) × (meaning store Default base ≡ node (Array a))

-- the word wants a group, as `consolidate` alone does, and the path means an array
abbrev pub WantsGroup : Word → Contents → Path → Type 0
WantsGroup Children store base = ⊥
WantsGroup ListAll store base = ⊥
WantsGroup Tree store base = ⊥
WantsGroup Consolidate store base = IsArray store base

-- the word writes whole numbers only, as `consolidate` alone does, and a listing below the base finds p with a fraction
abbrev pub WantsWhole : Word → Contents → Path → Path → Type 0
WantsWhole Children store base p = ⊥
WantsWhole ListAll store base p = ⊥
WantsWhole Tree store base p = ⊥
WantsWhole Consolidate store base p = ShowsFraction store base p

-- a listing is refused, or out of memory
abbrev pub IsListingFault : Bool → Contents → Bool → Path → ToolFault → Type 0
IsListingFault can_fail store recursive base =
    IsFault (IsExcusedOr can_fail (ShowsBad store Default recursive base)) ⊥ (λ _. ⊥)

-- opening a hierarchy is refused, or out of memory
abbrev pub IsTreeFault : Bool → Contents → Path → ToolFault → Type 0
IsTreeFault can_fail store base = IsFault (RefusesOpen can_fail store Auto base) ⊥ (λ _. ⊥)

-- opening a node is refused, or it is an array, or a node below it has a fraction, or out of memory
abbrev pub IsBlockFault : Bool → Contents → Path → ToolFault → Type 0
IsBlockFault can_fail store base =
    IsFault (RefusesOpen can_fail store Never base) (IsArray store base) (ShowsFraction store base)

-- a word is refused of a path
abbrev pub IsWordFault : Bool → Word → Contents → Path → ToolFault → Type 0
IsWordFault can_fail word store base =
    IsFault (RefusesWord can_fail word store base) (WantsGroup word store base) (WantsWhole word store base)

-- where the keys of the block ascend, it has metadata at the key that could not have come from a document whose
-- numbers are whole
abbrev pub HasFractionAt : Block → List ℕ → Type 0
HasFractionAt B key = IsAscending B → (m : NodeMetadata) × (node_at_key B key ≡ Some m) × (is_plain_node m ≡ false)

-- the fault names the path of a node of the block that has a fraction; or out of memory
abbrev pub IsFractionFault : Path → Block → ToolFault → Type 0
IsFractionFault base B (Fraction p) = (key : List ℕ) × (p ≡ base ++ relative_names key) × HasFractionAt B key
IsFractionFault base B OutOfMemory = ⊤
IsFractionFault base B _ = ⊥

-- the folder makes no store, or out of memory; or the words are refused over a store in which no key but a document's
-- has bytes, as a folder's
abbrev pub RefusedFolder : List (List ℕ) → ToolFault → Type 0
RefusedFolder words fault =
    IsLoadFault IsFolderFault fault
    ⊎ ((values : Values) × HoldsDocumentsAlone values × IsRefusal false words (in_whole_numbers values) fault)

-- why a run ends with the status 1: the words are not `folder DIR tree PATH`, and the run over the image is refused;
-- or they are, and the run of `tree PATH`
-- over the folder is refused
abbrev pub RefusedAnswer : List (List ℕ) → Option (List ℕ) → Option (List ℕ) → ToolFault → Type 0
RefusedAnswer words before after fault =
    ((IsFolderCommand words → ⊥) × RefusedRun words before after fault)
    ⊎ ((folder : List ℕ) × (tree : List (List ℕ)) × IsFolderWords words folder tree × RefusedFolder tree fault)
