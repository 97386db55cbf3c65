-- Why a run is refused.
-- <https://zarr-specs.readthedocs.io/en/latest/v3/core/index.html#hierarchy>
use Rattle.std.specs.Prelude.{◌≡◌, ℕ, Bool, true, false, List, [], ◌∷◌, ⊤, Option, Result, Ok, Err, ◌⊎◌}
use Rattle.std.specs.Io.KnownBytes.{Keeps, IsAtEnd}
use Rattle.zarrs_store.specs.Contents.{Contents, Values}
use Rattle.zarrs_path.specs.Paths.{Path, IsPath, path_text}
use Rattle.zarrs_meaning.specs.declared.node_create_error.NodeCreateError.{NodeCreateError}
use Rattle.zarrs_meaning.specs.Refusals.{IsExcusedOr}
use Rattle.zarrs_config.specs.declared.version.MetadataRetrieveVersion.TheVariants.{Default}
use Rattle.zarrs_config.specs.declared.version.UseConsolidatedMetadata.TheVariants.{Auto, Never}
use Rattle.zarrs_meta.specs.Node.{is_plain_node}
use Rattle.zarrs_meta.specs.declared.node.ArrayMetadata.{ArrayMetadata}
use Rattle.zarrs_meta.specs.declared.node.NodeMetadata.{NodeMetadata}
use Rattle.zarrs_meta.specs.declared.node.NodeMetadata.TheVariants.{Array}
use Rattle.zarrs_meaning.specs.Meaning.{meaning, node}
use Rattle.zarrs_node.specs.Nodes.{Nodes, ShowsBad}
use Rattle.zarrs_node.specs.OpeningNodes.{RefusesOpening}
use Rattle.zarrs_load.specs.Image.{IsLoaded, RefusedImage}
use Rattle.zarrs_load.specs.declared.fault.LoadFault.{LoadFault}
use Rattle.zarrs_load.specs.declared.fault.LoadFault.TheVariants as load
use Rattle.zarrs_program.specs.Words.{RefusesPathText}
use Rattle.zarrs_program.specs.declared.arguments.WordsFault.{WordsFault}
use Rattle.zarrs_program.specs.declared.arguments.WordsFault.TheVariants as unread
use Rattle.zarrs_tool.specs.Output.{IsCommand, IsOutput, in_whole_numbers, word_text}
use Rattle.zarrs_tool.specs.declared.fault.ToolFault.{ToolFault}
use Rattle.zarrs_tool.specs.declared.fault.ToolFault.TheVariants.{Usage, Read, ReadTooLong, Image, ImageKey, ImageValue}
use Rattle.zarrs_tool.specs.declared.fault.ToolFault.TheVariants.{Folder, NotAGroup, Fraction, Node, Write, OutOfMemory}
use Rattle.zarrs_tool.specs.declared.run.Word.{Word}
use Rattle.zarrs_tool.specs.declared.run.Word.TheVariants.{Children, List as ListAll, Tree, Consolidate}

-- the calls of a word refuse the path: it is excused, as out of memory or the fault of a store that can fail, or a
-- listing shows what is bad, or opening
-- is refused by the first reason that applies
abbrev pub RefusesWord : Bool → Word → Contents → Path → NodeCreateError → Type 0
RefusesWord can_fail Children store base = IsExcusedOr can_fail (ShowsBad store Default false base)
RefusesWord can_fail ListAll store base = IsExcusedOr can_fail (ShowsBad store Default true base)
RefusesWord can_fail Tree store base = IsExcusedOr can_fail (RefusesOpening store Default Auto (path_text base))
RefusesWord can_fail Consolidate store base = IsExcusedOr can_fail (RefusesOpening store Default Never (path_text base))

-- the words' path is none
abbrev pub RefusesWords : List (List ℕ) → NodeCreateError → Type 0
RefusesWords words e = (word : Word) × (path : List ℕ) × (words ≡ word_text word ∷ path ∷ []) × RefusesPathText path e

-- the calls of the words' command over the store refuse its path
abbrev pub RefusesStore : Bool → List (List ℕ) → Contents → NodeCreateError → Type 0
RefusesStore can_fail words store e =
    (word : Word) × (base : Path) × IsPath base × (words ≡ word_text word ∷ path_text base ∷ [])
    × RefusesWord can_fail word store base e

-- the words are `consolidate`, which wants a group, and a path that means an array
abbrev pub RefusesArray : List (List ℕ) → Contents → Type 0
RefusesArray words store =
    (base : Path) × IsPath base × (words ≡ word_text Consolidate ∷ path_text base ∷ []) × (a : ArrayMetadata)
    × (meaning store Default base ≡ node (Array a))

-- a listing finds p below the base, with metadata that could not have come from a document whose numbers are whole:
-- one of them has a fraction
abbrev pub ShowsFraction : Contents → Path → Path → Type 0
ShowsFraction store base p = (m : NodeMetadata) × Nodes store Default true base (p, m) × (is_plain_node m ≡ false)

-- the words are `consolidate`, which writes whole numbers only, and a path below which p has a fraction
abbrev pub RefusesFraction : List (List ℕ) → Contents → Path → Type 0
RefusesFraction words store p =
    (base : Path) × IsPath base × (words ≡ word_text Consolidate ∷ path_text base ∷ []) × ShowsFraction store base p

-- the words are refused over a store
abbrev pub IsRefusal : Bool → List (List ℕ) → Contents → ToolFault → Type 0
IsRefusal can_fail words store Usage = IsCommand words → ⊥
IsRefusal can_fail words store (Node e) = RefusesWords words e ⊎ RefusesStore can_fail words store e
IsRefusal can_fail words store NotAGroup = RefusesArray words store
IsRefusal can_fail words store (Fraction p) = RefusesFraction words store p
IsRefusal can_fail words store Write = (text : List ℕ) × IsOutput words store text
IsRefusal can_fail words store OutOfMemory = ⊤
IsRefusal can_fail words store _ = ⊥

-- the reader was read to its end, and the words are refused over the store of its image
abbrev pub RefusedAfterLoad : List (List ℕ) → Option (List ℕ) → Option (List ℕ) → ToolFault → Type 0
RefusedAfterLoad words before after fault =
    IsAtEnd after × ((values : Values) × IsLoaded before values × IsRefusal false words (in_whole_numbers values) fault)

-- the fault is one of loading, of which P holds
abbrev pub IsLoadFault : (LoadFault → Type 0) → ToolFault → Type 0
IsLoadFault P Read = P load.Read
IsLoadFault P ReadTooLong = P load.ReadTooLong
IsLoadFault P Image = P load.Image
IsLoadFault P (ImageKey name) = P (load.ImageKey name)
IsLoadFault P (ImageValue name) = P (load.ImageValue name)
IsLoadFault P Folder = P load.Folder
IsLoadFault P OutOfMemory = P load.OutOfMemory
IsLoadFault P _ = ⊥

-- words that are not UTF-8 are no command; or out of memory
abbrev pub IsFaultOfWords : WordsFault → ToolFault → Type 0
IsFaultOfWords unread.NotText fault = fault ≡ Usage
IsFaultOfWords unread.OutOfMemory fault = fault ≡ OutOfMemory

-- the run over an image ends with this fault: for wrong words the reader was left as it was; for a path, a node, an
-- array or the writer the words are
-- refused over the store of the image, once the reader was read to its end; for any other fault no image was loaded.
-- None is a fraction, since the
-- store of an image has whole numbers
abbrev pub RefusedRun : List (List ℕ) → Option (List ℕ) → Option (List ℕ) → ToolFault → Type 0
RefusedRun words before after Usage = Keeps before after
RefusedRun words before after (Node e) = RefusedAfterLoad words before after (Node e)
RefusedRun words before after NotAGroup = RefusedAfterLoad words before after NotAGroup
RefusedRun words before after Write = RefusedAfterLoad words before after Write
RefusedRun words before after fault = IsLoadFault (RefusedImage before after) fault

-- the exit status: 0 where all went well, 2 for wrong words, else 1
abbrev pub status_of : Result Unit ToolFault → ℕ
status_of (Ok done) = 0
status_of (Err Usage) = 2
status_of (Err fault) = 1
