-- What a refused run says on the standard error: the usage, or a line that says why, or nothing where nobody reads its
-- output any more (POSIX.1-2017, "Utility Description Defaults", "STDERR").
-- <https://pubs.opengroup.org/onlinepubs/9699919799/utilities/V3_chap01.html>
--     refusal_line text      the line that says a text
--     IsRefusalText hint fault text      what is said of a fault
--     IsNowhereIn source path hint      the hint says that there is no node at a path of a store
--     IsNameHint request path fault hint      it says what helps where a name is refused
--     SaysRefusal words fault before after      this was said of the fault of these words
use Rattle.std.specs.Prelude.{◌≡◌, ◌≢◌, ◌⊎◌, ⊤, ℕ, List, [], ◌∷◌, ◌++◌, codes, Option, Some, None}
use Rattle.std.specs.Io.KnownBytes.{Appends, Keeps}
use Rattle.zarrs_path.specs.Paths.{Path, IsPath, IsPathText, path_text}
use Rattle.zarrs_path.specs.declared.node_path.NodePathError.TheVariants.{Invalid}
use Rattle.zarrs_meaning.specs.declared.node_create_error.NodeCreateError.{NodeCreateError}
use Rattle.zarrs_meaning.specs.declared.node_create_error.NodeCreateError.TheVariants.{MissingMetadata, NodePathError}
use Rattle.zarrs_program.specs.Lines.{told_line}
use Rattle.zarrs_cli.specs.Escapes.{escaped_text}
use Rattle.zarrs_cli.specs.FaultTexts.{zarrs_fault_text}
use Rattle.zarrs_cli.specs.Output.{usage_text}
use Rattle.zarrs_cli.specs.Words.{AreWordsOf, with_leading_slash}
use Rattle.zarrs_cli.specs.declared.fault.ZarrsFault.{ZarrsFault}
use Rattle.zarrs_consolidate.specs.declared.fault.ConsolidateError.TheVariants as consolidating
use Rattle.zarrs_cli.specs.declared.fault.ZarrsFault.TheVariants.{Usage, Node, Consolidate, Closed, OutOfMemory}
use Rattle.zarrs_cli.specs.declared.words.Request.{Request}
use Rattle.zarrs_cli.specs.declared.words.Request.TheVariants.{Look}
use Rattle.zarrs_cli.specs.declared.words.Word.TheVariants.{Tree}
use Rattle.zarrs_fault.specs.Bytes.{slash}

-- the line that says a text: the name of the program, a colon, a space, and the text with control characters and
-- backslashes as JSON writes them
abbrev pub refusal_line : List ℕ → List ℕ
refusal_line text = told_line (codes "zarrs") (escaped_text text)

-- the line that says that there was no memory for the text
abbrev pub memory_line : List ℕ
memory_line = told_line (codes "zarrs") (zarrs_fault_text OutOfMemory)

-- why a run is refused: the hint where there is one, else the text of the fault
abbrev pub reason_text : Option (List ℕ) → ZarrsFault → List ℕ
reason_text (Some hint) fault = hint
reason_text None fault = zarrs_fault_text fault

-- what is said of a fault: of wrong words the usage, and else the line of the reason, or, where there is no memory
-- for that, the line that says so
abbrev pub IsRefusalText : Option (List ℕ) → ZarrsFault → List ℕ → Type 0
IsRefusalText hint fault text =
    ((fault ≡ Usage) × (text ≡ usage_text))
    ⊎ ((fault ≢ Usage) × ((text ≡ refusal_line (reason_text hint fault)) ⊎ (text ≡ memory_line)))

-- what is said of the fault was appended to what the writer held: nothing where nobody reads the output any more
abbrev pub SaysReason : Option (List ℕ) → ZarrsFault → Option (List ℕ) → Option (List ℕ) → Type 0
SaysReason hint fault before after =
    ((fault ≡ Closed) × Keeps before after)
    ⊎ ((fault ≢ Closed) × ((text : List ℕ) × IsRefusalText hint fault text × Appends before after text))

-- ---- a path without a node

-- the fault is that there is no node at the path
abbrev pub IsNoNode : ZarrsFault → Type 0
IsNoNode (Node (MissingMetadata path)) = ⊤
IsNoNode (Consolidate (consolidating.Node (MissingMetadata path))) = ⊤
IsNoNode _ = ⊥

-- that there is no node at a path of a place
abbrev pub nowhere_text : List ℕ → List ℕ → List ℕ
nowhere_text path place = codes "there is no node at " ++ (path ++ (codes " in " ++ place))

-- the folder without the one slash at its end, if it has one
abbrev pub IsFolderName : List ℕ → List ℕ → Type 0
IsFolderName folder name =
    (folder ≡ name ++ slash ∷ []) ⊎ (((front : List ℕ) → folder ≢ front ++ slash ∷ []) × (name ≡ folder))

-- that a store stands in a folder: the one of this name, and from there on this path
abbrev pub store_text : List ℕ → Path → List ℕ
store_text name below = codes " (a store stands at " ++ (name ++ (path_text below ++ codes ")"))

-- the hint says that there is no node at a path of a folder, and it may say where a store stands in that folder
abbrev pub IsNowhereInFolder : List ℕ → List ℕ → List ℕ → Type 0
IsNowhereInFolder folder path hint =
    (hint ≡ nowhere_text path folder)
    ⊎ ((name : List ℕ) × (below : Path) × IsFolderName folder name × IsPath below
    × (hint ≡ nowhere_text path folder ++ store_text name below))

-- the hint says that there is no node at a path of the store that a source names: of the image, or of the folder
abbrev pub IsNowhereIn : List ℕ → List ℕ → List ℕ → Type 0
IsNowhereIn source path hint =
    ((source ≡ codes "-") × (hint ≡ nowhere_text path (codes "the image")))
    ⊎ ((source ≢ codes "-") × IsNowhereInFolder source path hint)

-- ---- a name that is refused

-- the refusal of a node is of a text that is no path, or of a key of a block that is none
abbrev pub IsNameError : NodeCreateError → Type 0
IsNameError (NodePathError (Invalid text)) = ⊤
IsNameError _ = ⊥

-- the fault is such a refusal
abbrev pub IsNameFault : ZarrsFault → Type 0
IsNameFault (Node e) = IsNameError e
IsNameFault (Consolidate (consolidating.Node e)) = IsNameError e
IsNameFault _ = ⊥

-- the text of a fault, and behind it what a path is
abbrev pub path_rule_text : ZarrsFault → List ℕ
path_rule_text fault =
    zarrs_fault_text fault
    ++ codes " (a path is / or names with a slash before each; none is empty, of periods only, or begins with __)"

-- the text of a fault, and behind it that it is of a key of the block at a path, and how the tree is shown without that
abbrev pub way_out_text : ZarrsFault → List ℕ → List ℕ
way_out_text fault path =
    zarrs_fault_text fault
    ++ (codes " (a key of the block of " ++ (path ++ codes "; zarrs tree --store goes by the store)"))

-- the text that was asked about is no path, and the hint says what a path is; or it is one, and the tree from there on
-- was asked for, and the hint says how it is shown without the block
abbrev pub IsNameHint : Request → List ℕ → ZarrsFault → List ℕ → Type 0
IsNameHint request path fault hint =
    ((IsPathText path → ⊥) × (hint ≡ path_rule_text fault))
    ⊎ (IsPathText path × (request ≡ Look Tree) × (hint ≡ way_out_text fault path))

-- ---- all hints

-- there is no hint; or there is no node at the path that the words name, and the hint says so; or a name is refused,
-- and the hint says what helps
abbrev pub IsHint : List (List ℕ) → ZarrsFault → Option (List ℕ) → Type 0
IsHint words fault None = ⊤
IsHint words fault (Some hint) = (request : Request) × (source path : List ℕ) × AreWordsOf words request source path
    × ((IsNoNode fault × IsNowhereIn source (with_leading_slash path) hint)
    ⊎ (IsNameFault fault × IsNameHint request (with_leading_slash path) fault hint))

-- what is said of the fault of these words, with a hint or without, was appended to what the writer held
abbrev pub SaysRefusal : List (List ℕ) → ZarrsFault → Option (List ℕ) → Option (List ℕ) → Type 0
SaysRefusal words fault before after =
    (hint : Option (List ℕ)) × IsHint words fault hint × SaysReason hint fault before after
