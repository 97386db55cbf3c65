-- Why a run is refused.
-- <https://zarr-specs.readthedocs.io/en/latest/v3/core/index.html#hierarchy>
--     RefusesAnswer can_fail w s b      what the calls of a word refuse
--     RefusesRun can_fail w path s      why a run over a store is refused
--     IsUnreadOnlyOf can_fail fault      what a folder may refuse
--     RefusesAsked words left      why a run of the program is
--     IsOfWriter fault      the fault is of the writer
--     run_status      the exit status
use Rattle.std.specs.Prelude.{◌≡◌, ◌≢◌, ℕ, Bool, false, List, ⊤, Option, Some, None, Result, Ok, Err, ◌⊎◌, cond, codes}
use Rattle.std.specs.Prelude.{◌==◌}
use Rattle.std.specs.Io.KnownBytes.{IsAtEnd}
use Rattle.std.specs.IoError.{error_kind}
use Rattle.std.specs.declared.io.Error.{Error}
use Rattle.std.specs.declared.io.ErrorKind.TheVariants.{BrokenPipe}
use Rattle.zarrs_store.specs.Contents.{Contents, Values}
use Rattle.zarrs_path.specs.Paths.{Path, IsPath, path_text}
use Rattle.zarrs_config.specs.declared.version.MetadataRetrieveVersion.TheVariants.{Default}
use Rattle.zarrs_config.specs.declared.version.UseConsolidatedMetadata.TheVariants.{Auto, Never}
use Rattle.zarrs_meaning.specs.declared.node_create_error.NodeCreateError.{NodeCreateError}
use Rattle.zarrs_meaning.specs.Refusals.{IsExcused, IsExcusedOr}
use Rattle.zarrs_node.specs.OpeningNodes.{RefusesOpening}
use Rattle.zarrs_folder.specs.Folders.{in_any, IsFaultOfFolder}
use Rattle.zarrs_load.specs.Image.{IsLoaded, RefusedImage}
use Rattle.zarrs_program.specs.Words.{RefusesPathText}
use Rattle.zarrs_program.specs.declared.arguments.WordsFault.{WordsFault}
use Rattle.zarrs_program.specs.declared.arguments.WordsFault.TheVariants as unread
use Rattle.zarrs_consolidate.specs.Refusals.{IsOfFolder}
use Rattle.zarrs_cli.specs.Output.{IsAnswer}
use Rattle.zarrs_cli.specs.Words.{AreWords, AreWordsOf, AskHelp, AskVersion, with_leading_slash}
use Rattle.zarrs_cli.specs.declared.report.Tally.{Tally}
use Rattle.zarrs_cli.specs.declared.fault.ZarrsFault.{ZarrsFault}
use Rattle.zarrs_cli.specs.declared.fault.ZarrsFault.TheVariants.{Usage, Load, Folder, Node, TooDeep, Write, Closed}
use Rattle.zarrs_cli.specs.declared.fault.ZarrsFault.TheVariants.{Consolidate as NoPlan, OutOfMemory}
use Rattle.zarrs_node.specs.OpeningNodes.{RefusesNode}
use Rattle.zarrs_write.specs.Calls.{Asked}
use Rattle.zarrs_cli.specs.ConsolidationRefusals.{RefusesConsolidationOfSome}
use Rattle.zarrs_cli.specs.NodeDocuments.{NestsTooDeepAt}
use Rattle.zarrs_cli.specs.declared.consolidate.Consolidated.TheVariants.{Complete, Due}
use Rattle.zarrs_cli.specs.declared.ending.Answered.{Answered}
use Rattle.zarrs_cli.specs.declared.ending.Answered.TheVariants as answered
use Rattle.zarrs_cli.specs.declared.words.ConsolidateOptions.{ConsolidateOptions}
use Rattle.zarrs_cli.specs.declared.words.Request.{Request}
use Rattle.zarrs_cli.specs.declared.words.Request.TheVariants.{Look, Consolidate}
use Rattle.zarrs_cli.specs.declared.words.Word.{Word}
use Rattle.zarrs_cli.specs.declared.words.Word.TheVariants.{Tree, StoreTree, List as ListAll, Show, Check}

-- the calls of a word refuse the path: it is excused, as out of memory or the fault of a store that can fail; or
-- opening is refused by the first reason that applies, of `show` the node itself is, and of a check nothing else
abbrev pub RefusesAnswer : Bool → Word → Contents → Path → NodeCreateError → Type 0
RefusesAnswer can_fail Tree store base = IsExcusedOr can_fail (RefusesOpening store Default Auto (path_text base))
RefusesAnswer can_fail StoreTree store base = IsExcusedOr can_fail (RefusesOpening store Default Never (path_text base))
RefusesAnswer can_fail ListAll store base = IsExcusedOr can_fail (RefusesOpening store Default Never (path_text base))
RefusesAnswer can_fail Show store base = IsExcusedOr can_fail (RefusesNode store Default base)
RefusesAnswer can_fail (Check options) store base = IsExcused can_fail

-- the word is `show`, and the document nests too deep with its attributes
abbrev pub IsTooDeepFor : Word → Contents → Path → Type 0
IsTooDeepFor Show store base = NestsTooDeepAt store base
IsTooDeepFor _ store base = ⊥

-- the text is that of a path, which the calls of the word refuse
abbrev pub RefusesPathOf : Bool → Word → List ℕ → Contents → NodeCreateError → Type 0
RefusesPathOf can_fail word path store e =
    (base : Path) × IsPath base × (path_text base ≡ path) × RefusesAnswer can_fail word store base e

-- a run over the store is refused: the text is no path, or the calls of the word refuse it; or the document that is
-- shown nests too deep; or there is an answer, and the writer failed or nobody reads; or out of memory
abbrev pub RefusesRun : Bool → Word → List ℕ → Contents → ZarrsFault → Type 0
RefusesRun can_fail word path store (Node e) = RefusesPathText path e ⊎ RefusesPathOf can_fail word path store e
RefusesRun can_fail word path store TooDeep =
    (base : Path) × IsPath base × (path_text base ≡ path) × IsTooDeepFor word store base
RefusesRun can_fail word path store Write =
    (tally : Option Tally) × (text : List ℕ) × IsAnswer word path store tally text
RefusesRun can_fail word path store Closed =
    (tally : Option Tally) × (text : List ℕ) × IsAnswer word path store tally text
RefusesRun can_fail word path store OutOfMemory = ⊤
RefusesRun can_fail word path store _ = ⊥

-- the image was not loaded, or out of memory
abbrev pub RefusesImage : Option (List ℕ) → Option (List ℕ) → ZarrsFault → Type 0
RefusesImage before after (Load fault) = RefusedImage before after fault
RefusesImage before after OutOfMemory = ⊤
RefusesImage before after _ = ⊥

-- the fault is of the writer: it failed, or nobody reads what is written any more
abbrev pub IsOfWriter : ZarrsFault → Type 0
IsOfWriter fault = (fault ≡ Write) ⊎ (fault ≡ Closed)

-- the fault of this error of the writer: nobody reads where the pipe is broken, else the writer failed
abbrev pub IsWriterFault : Error → ZarrsFault → Type 0
IsWriterFault error fault =
    ((error_kind error ≡ BrokenPipe) × (fault ≡ Closed)) ⊎ ((error_kind error ≢ BrokenPipe) × (fault ≡ Write))

-- words that are not UTF-8 are no call's; or out of memory
abbrev pub IsWordsFault : WordsFault → ZarrsFault → Type 0
IsWordsFault unread.NotText fault = fault ≡ Usage
IsWordsFault unread.OutOfMemory fault = fault ≡ OutOfMemory

-- a folder was not read, or out of memory
abbrev pub RefusesFolder : ZarrsFault → Type 0
RefusesFolder (Folder fault) = ⊤
RefusesFolder OutOfMemory = ⊤
RefusesFolder _ = ⊥

-- where the fault is one of a folder, it is out of memory, or the folder is one that can fail
abbrev pub IsUnreadOnlyOf : Bool → ZarrsFault → Type 0
IsUnreadOnlyOf can_fail (Folder fault) = IsFaultOfFolder can_fail fault
IsUnreadOnlyOf can_fail (NoPlan e) = IsOfFolder can_fail e
IsUnreadOnlyOf can_fail _ = ⊤

-- a reader gives no image; or it was read to its end, and the run over the store of its image is refused
abbrev pub RefusesOverImage : Word → List ℕ → Option (List ℕ) → Option (List ℕ) → ZarrsFault → Type 0
RefusesOverImage word path before after fault =
    RefusesImage before after fault
    ⊎ (IsAtEnd after × ((values : Values) × IsLoaded before values × RefusesRun false word path (in_any values) fault))

-- the folder was not read; or the run over each store that holds what P says is refused
abbrev pub RefusesOverEach : Word → List ℕ → (Values → Type 0) → ZarrsFault → Type 0
RefusesOverEach word path P fault =
    RefusesFolder fault ⊎ ((values : Values) → P values → RefusesRun false word path (in_any values) fault)

-- the folder was not read; or the run over a store is refused
abbrev pub RefusesOverSome : Word → List ℕ → ZarrsFault → Type 0
RefusesOverSome word path fault =
    RefusesFolder fault ⊎ ((values : Values) × RefusesRun false word path (in_any values) fault)

-- the run over the store which the source names is refused: of `-` that of the image, else that of a folder
abbrev pub RefusesOverSource : Word → List ℕ → List ℕ → Option (List ℕ) → Option (List ℕ) → ZarrsFault → Type 0
RefusesOverSource word source path before after fault =
    ((source ≡ codes "-") × RefusesOverImage word path before after fault)
    ⊎ ((source ≢ codes "-") × RefusesOverSome word path fault)

-- the folder is not opened; or the run over a store that writes a block back is refused
abbrev pub RefusesConsolidating : ConsolidateOptions → List ℕ → ZarrsFault → Type 0
RefusesConsolidating options path fault =
    RefusesFolder fault
    ⊎ ((before after : Option (List Asked)) × RefusesConsolidationOfSome options path before after fault)

-- what is asked of the store that the source names is refused
abbrev pub RefusesRequest : Request → List ℕ → List ℕ → Option (List ℕ) → Option (List ℕ) → ZarrsFault → Type 0
RefusesRequest (Look word) source path before after fault = RefusesOverSource word source path before after fault
RefusesRequest (Consolidate options) source path before after fault = RefusesConsolidating options path fault

-- what the words ask of a store is refused
abbrev pub RefusesNamed : List (List ℕ) → Option (List ℕ) → Option (List ℕ) → ZarrsFault → Type 0
RefusesNamed words before after fault =
    (request : Request) × (source path : List ℕ) × AreWordsOf words request source path
    × RefusesRequest request source (with_leading_slash path) before after fault

-- the words are no call's; or they ask for the usage or the version, and the writer failed or nobody reads; or what
-- they ask of a store is refused
abbrev pub RefusesAsked : List (List ℕ) → Option (List ℕ) → Option (List ℕ) → ZarrsFault → Type 0
RefusesAsked words before after Usage = AreWords words → ⊥
RefusesAsked words before after Write = AskHelp words ⊎ AskVersion words ⊎ RefusesNamed words before after Write
RefusesAsked words before after Closed = AskHelp words ⊎ AskVersion words ⊎ RefusesNamed words before after Closed
RefusesAsked words before after fault = RefusesNamed words before after fault

-- the status of what is shown: 1 where a check has a finding, else 0
abbrev pub tally_status : Option Tally → ℕ
tally_status None = 0
tally_status (Some tally) = cond (tally.findings == 0) 0 1

-- the status of a run that is not refused: 1 where a check has a finding, or a dry run would write, else 0
abbrev pub answered_status : Answered → ℕ
answered_status (answered.Looked tally) = tally_status tally
answered_status (answered.Consolidated Complete) = 0
answered_status (answered.Consolidated Due) = 1

-- the exit status: 2 where the run is refused
abbrev pub run_status : Result Answered ZarrsFault → ℕ
run_status (Ok end) = answered_status end
run_status (Err fault) = 2
