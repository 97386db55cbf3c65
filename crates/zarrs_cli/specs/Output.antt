-- What the program writes of a store, as the Zarr core specification 3.1 defines nodes and paths in "Hierarchy": its
-- tree, the paths of its nodes, or the
-- report on what is bad in it.
-- <https://zarr-specs.readthedocs.io/en/latest/v3/core/index.html#hierarchy>
--     IsWordText w s b tally text      what a word writes of a store from a path on, and how much a check looked at
-- and found
--     WritesWord w path s      the same was written, of a path that is given as a text
--     WritesAsked words left      what a run writes that ends well
use Rattle.std.specs.Prelude.{◌≡◌, ◌≢◌, ◌⊎◌, ℕ, List, [], ◌∷◌, ◌++◌, codes, Option, Some, None}
use Rattle.std.specs.List.{flat_map}
use Rattle.std.specs.Io.KnownBytes.{Appends}
use Rattle.zarrs_folder.specs.Folders.{in_any}
use Rattle.zarrs_store.specs.Contents.{Contents, Values}
use Rattle.zarrs_path.specs.Paths.{Path, IsPath, path_text}
use Rattle.zarrs_config.specs.declared.version.UseConsolidatedMetadata.TheVariants.{Auto, Never}
use Rattle.zarrs_load.specs.Image.{IsLoaded}
use Rattle.zarrs_cli.specs.declared.report.Tally.{Tally}
use Rattle.zarrs_cli.specs.declared.words.CheckOptions.{CheckOptions}
use Rattle.zarrs_cli.specs.declared.words.Word.{Word}
use Rattle.zarrs_cli.specs.declared.words.Word.TheVariants.{Tree, StoreTree, List as ListAll, Show, Check}
use Rattle.zarrs_write.specs.Calls.{Asked}
use Rattle.zarrs_cli.specs.Consolidations.{IsConsolidationOfSome}
use Rattle.zarrs_cli.specs.NodeDocuments.{IsShownDocument}
use Rattle.zarrs_cli.specs.declared.consolidate.Consolidated.{Consolidated}
use Rattle.zarrs_cli.specs.declared.ending.Answered.{Answered}
use Rattle.zarrs_cli.specs.declared.ending.Answered.TheVariants as answered
use Rattle.zarrs_cli.specs.declared.words.ConsolidateOptions.{ConsolidateOptions}
use Rattle.zarrs_cli.specs.declared.words.Request.{Request}
use Rattle.zarrs_cli.specs.declared.words.Request.TheVariants.{Look, Consolidate}
use Rattle.zarrs_cli.specs.Report.{IsReportFrom}
use Rattle.zarrs_cli.specs.NodeLines.{IsShown, tree_line, list_line}
use Rattle.zarrs_cli.specs.Words.{AskHelp, AskVersion, AreWordsOf, with_leading_slash}
use Rattle.zarrs_fault.specs.Bytes.{newline}

-- the text is the report, and this is how much was looked at and found
abbrev pub IsReported : CheckOptions → Contents → Path → Option Tally → List ℕ → Type 0
IsReported options s b None text = ⊥
IsReported options s b (Some tally) text = IsReportFrom s b options tally text

-- what a word writes of the store from b on: `tree` the tree by the block of b where it has one, `tree --store` the
-- tree by the store, `list` the paths, `show` the document of b, and
-- `check` the report, which alone says how much was looked at and found
abbrev pub IsWordText : Word → Contents → Path → Option Tally → List ℕ → Type 0
IsWordText Tree s b tally text = (tally ≡ None) × IsShown s Auto b (tree_line b) text
IsWordText StoreTree s b tally text = (tally ≡ None) × IsShown s Never b (tree_line b) text
IsWordText ListAll s b tally text = (tally ≡ None) × IsShown s Never b list_line text
IsWordText Show s b tally text = (tally ≡ None) × IsShownDocument s b text
IsWordText (Check options) s b tally text = IsReported options s b tally text

-- the text is that of a path, and this is what the word writes from that path on
abbrev pub IsAnswer : Word → List ℕ → Contents → Option Tally → List ℕ → Type 0
IsAnswer word path store tally text =
    (base : Path) × IsPath base × (path_text base ≡ path) × IsWordText word store base tally text

-- what the word writes was appended to what the writer held
abbrev pub WritesWord : Word → List ℕ → Contents → Option (List ℕ) → Option (List ℕ) → Option Tally → Type 0
WritesWord word path store before after tally =
    (text : List ℕ) × IsAnswer word path store tally text × Appends before after text

-- what the word writes of the store of the image that a reader had left
abbrev pub WritesOverImage : Word → List ℕ → Option (List ℕ) → Option (List ℕ) → Option (List ℕ) → Option Tally → Type 0
WritesOverImage word path left before after tally =
    (values : Values) × IsLoaded left values × WritesWord word path (in_any values) before after tally

-- what the word writes of each store that holds what P says
abbrev pub WritesOverEach : Word → List ℕ → (Values → Type 0) → Option (List ℕ) → Option (List ℕ) → Option Tally
    → Type 0
WritesOverEach word path P before after tally =
    (values : Values) → P values → WritesWord word path (in_any values) before after tally

-- what the word writes of a store
abbrev pub WritesOverSome : Word → List ℕ → Option (List ℕ) → Option (List ℕ) → Option Tally → Type 0
WritesOverSome word path before after tally =
    (values : Values) × WritesWord word path (in_any values) before after tally

-- what the word writes of the store that the source names: the image's where the source is `-`, else a folder's
abbrev pub WritesOverSource : Word → List ℕ → List ℕ → Option (List ℕ) → Option (List ℕ) → Option (List ℕ)
    → Option Tally → Type 0
WritesOverSource word source path left before after tally =
    ((source ≡ codes "-") × WritesOverImage word path left before after tally)
    ⊎ ((source ≢ codes "-") × WritesOverSome word path before after tally)

-- ---- what is the same of every store

-- the usage: its lines
abbrev pub usage_text : List ℕ
usage_text = flat_map (λ l. l ++ newline ∷ []) (
    codes "usage: zarrs tree DIR [PATH]          the tree, by the block of the group at PATH where it has one"
    ∷ codes "       zarrs tree --store DIR [PATH]  the tree, by the store"
    ∷ codes "       zarrs list DIR [PATH]          the path of each node at and below PATH, one a line"
    ∷ codes "       zarrs show DIR [PATH]          the document of the node at PATH, with its attributes"
    ∷ codes "       zarrs check DIR [PATH]         what is bad in the store, and where its blocks say something else"
    ∷ codes "       zarrs check [--notes] [--json] DIR [PATH]"
    ∷ codes "                                      the same, with what is worth knowing too, and as JSON"
    ∷ codes "       zarrs consolidate DIR [PATH]   makes the block of the group at PATH anew, and writes it back"
    ∷ codes "       zarrs consolidate [--dry-run] [--remove] DIR [PATH]"
    ∷ codes "                                      only says what it would write; removes the block"
    ∷ codes "       zarrs --help | --version"
    ∷ codes "DIR is the folder of a store, or - for an image on standard input. PATH is as /a/b or a/b, and / if"
    ∷ codes "it is left out. Options stand before DIR."
    ∷ codes "Status 0: done. 1: check has findings, or a dry run would write. 2: wrong words, refused, unreadable,"
    ∷ codes "out of memory, or not written."
    ∷ [])

-- the release of the Rust crate whose names and behaviour this library has
abbrev pub version_text : List ℕ
version_text = codes "zarrs 0.23.13\n"

-- ---- of a run

-- a run over some store that writes a block back was told: its line was appended
abbrev pub WritesConsolidated : ConsolidateOptions → List ℕ → Option (List ℕ) → Option (List ℕ) → Consolidated → Type 0
WritesConsolidated options path old new end =
    (before after : Option (List Asked)) × IsConsolidationOfSome options path before after old new end

-- what was asked of the store that the source names was appended: what a word writes, or what a run tells that writes a
-- block back
abbrev pub WritesRequest : Request → List ℕ → List ℕ → Option (List ℕ) → Option (List ℕ) → Option (List ℕ) → Answered
    → Type 0
WritesRequest (Look word) source path left before after (answered.Looked tally) =
    WritesOverSource word source path left before after tally
WritesRequest (Consolidate options) source path left before after (answered.Consolidated end) =
    WritesConsolidated options path before after end
WritesRequest _ source path left before after _ = ⊥

-- what the words ask was appended: the usage, the version, or what is asked of a store
abbrev pub WritesAsked : List (List ℕ) → Option (List ℕ) → Option (List ℕ) → Option (List ℕ) → Answered → Type 0
WritesAsked words left before after end =
    (AskHelp words × (end ≡ answered.Looked None) × Appends before after usage_text)
    ⊎ (AskVersion words × (end ≡ answered.Looked None) × Appends before after version_text)
    ⊎ ((request : Request) × (source path : List ℕ) × AreWordsOf words request source path
    × WritesRequest request source (with_leading_slash path) left before after end)
