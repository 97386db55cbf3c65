-- Steps of a run of the program: what private calls ask and refuse; no public contract rests on them.
use Rattle.std.specs.Prelude.{◌≡◌, ◌⊎◌, ◌||◌, ◌++◌, ℕ, nat_lt, Bool, true, false, not, ⊤, List, [], length, map, Option}
use Rattle.std.specs.Prelude.{Some, String, string_bytes}
use Rattle.std.specs.List.{filter}
use Rattle.std.specs.declared.alloc.Global.{Global}
use Rattle.zarrs_store.specs.Contents.{Contents, Values}
use Rattle.zarrs_path.specs.Paths.{Path, IsBelow}
use Rattle.zarrs_form.specs.Forms.{is_nil}
use Rattle.zarrs_meaning.specs.declared.node_create_error.NodeCreateError.{NodeCreateError}
use Rattle.zarrs_config.specs.declared.version.MetadataRetrieveVersion.TheVariants.{Default}
use Rattle.zarrs_config.specs.declared.version.UseConsolidatedMetadata.TheVariants.{Auto, Never}
use Rattle.zarrs_meaning.specs.Exists.{HasNodeKey}
use Rattle.zarrs_check.specs.BlocksAbove.{IsAboveFinding}
use Rattle.zarrs_check.specs.Checks.{IsBlockFinding}
use Rattle.zarrs_check.specs.PathChecks.{IsPathCheckOf}
use Rattle.zarrs_check.specs.declared.path_check.CheckedFrom.{CheckedFrom}
use Rattle.zarrs_check.specs.declared.path_check.CheckedFrom.TheVariants.{Array, Tree}
use Rattle.zarrs_check.specs.declared.path_check.PathCheck.{PathCheck}
use Rattle.zarrs_check.specs.declared.finding.Finding.{Finding}
use Rattle.zarrs_check.specs.declared.finding.FindingKind.{FindingKind}
use Rattle.zarrs_check.specs.declared.finding.FindingKind.TheVariants.{Stale}
use Rattle.zarrs_folder.specs.Folders.{in_any, values_of}
use Rattle.zarrs_folder.specs.Openings.{OpenSame}
use Rattle.zarrs_folder.specs.PassedPaths.{IsPassed}
use Rattle.zarrs_folder.specs.declared.documents.Documents.TheVariants.{All}
use Rattle.zarrs_folder.specs.PrunedStores.{HasSameFiles, IsArrayAt, IsLoadedFrom}
use Rattle.zarrs_cli.specs.declared.folder.Loaded.{Loaded}
use Rattle.zarrs_cli.specs.declared.words.Word.{Word}
use Rattle.zarrs_cli.specs.declared.words.Word.TheVariants.{Tree as TreeOf, StoreTree, List as ListAll, Show, Check}
use Rattle.zarrs_cli.specs.declared.fault.ZarrsFault.{ZarrsFault}
use Rattle.zarrs_cli.specs.declared.fault.ZarrsFault.TheVariants.{Node, TooDeep, OutOfMemory}
use Rattle.zarrs_cli.specs.declared.report.Tally.{Tally}
use Rattle.zarrs_cli.specs.Output.{IsWordText}
use Rattle.zarrs_meaning.specs.Meaning.{meaning}
use Rattle.zarrs_cli.specs.Refusals.{IsTooDeepFor, RefusesFolder, RefusesAnswer}

-- the fault holds an error that refuses, or is that a document nests too deep, where this says so; or out of memory
abbrev pub HoldsRefusal : (NodeCreateError → Type 0) → Type 0 → ZarrsFault → Type 0
HoldsRefusal refuses deep (Node e) = refuses e
HoldsRefusal refuses deep TooDeep = deep
HoldsRefusal refuses deep OutOfMemory = ⊤
HoldsRefusal refuses deep _ = ⊥

-- the calls of a word refuse the path, or out of memory
abbrev pub IsAnswerFault : Bool → Word → Contents → Path → ZarrsFault → Type 0
IsAnswerFault can_fail word store base =
    HoldsRefusal (RefusesAnswer can_fail word store base) (IsTooDeepFor word store base)

-- an entry is stale
abbrev pub is_stale : FindingKind → Bool
is_stale Stale = true
is_stale _ = false

-- each entry that is stale beside L is so beside S: S has no document there either
abbrev pub IsSettledOver : Contents → Contents → Path → Type 0
IsSettledOver S L b = (f : Finding) → IsBlockFinding L Default b f → f.kind ≡ Stale → HasNodeKey S f.path → ⊥

-- below each path at which a walk goes no further, L has a document of a node where S has one
abbrev pub HoldsPassed : Contents → Contents → Path → Type 0
HoldsPassed S L b = (p q : Path) → IsPassed S b p → IsBelow p q → HasNodeKey S q → HasNodeKey L q

-- L has the files of each path above b as S has them
abbrev pub HoldsAbove : Contents → Contents → Path → Type 0
HoldsAbove S L b = (g : Path) → IsBelow g b → HasSameFiles S.values L.values g

-- each entry of a block above b that is stale beside L is so beside S
abbrev pub IsSettledAbove : Contents → Contents → Path → Type 0
IsSettledAbove S L b = (f : Finding) → IsAboveFinding L Default b f → f.kind ≡ Stale → HasNodeKey S f.path → ⊥

-- L has enough of S for a check from b on: it is loaded from S; where b means no array its stale entries are settled,
-- and it has what is passed; it has the files above b, and the stale entries of the blocks there are settled
pub record IsCheckable (S L : Contents) (b : Path) : Type 0 where
  pub loaded : IsLoadedFrom All S L b
  pub from : (IsArrayAt S b → ⊥) → IsSettledOver S L b × HoldsPassed S L b
  pub above : HoldsAbove S L b
  pub settled : IsSettledAbove S L b

-- the store that was loaded
abbrev pub loaded_store : Loaded → Contents
loaded_store l = in_any (values_of l.store.inner)

-- the check that was made of it, if one was
abbrev pub IsChecked : Loaded → Path → Type 0
IsChecked l b = (c : PathCheck) → l.checked ≡ Some c → IsPathCheckOf (loaded_store l) Default b c

-- the paths at which a walk goes no further, of those without documents and of the bad ones
abbrev pub passed_paths : List Path → List (Path × NodeCreateError) → List Path
passed_paths ignored bad = ignored ++ map (λ d. d.0) bad

-- how many entries are stale
abbrev pub stale_among : List Finding → ℕ
stale_among fs = length (filter (λ f. is_stale f.kind) fs)

-- something is passed over, or an entry of a block from the path on is stale
abbrev pub has_more_from : CheckedFrom → Bool
has_more_from (Array found) = false
has_more_from (Tree c) =
    not (is_nil c.ignored.items) || (not (is_nil c.bad_documents) || nat_lt 0 (stale_among c.findings.items))

-- the same, or an entry of a block above is stale
abbrev pub has_more : PathCheck → Bool
has_more c = nat_lt 0 (stale_among c.above.items) || has_more_from c.from

-- the paths of stale entries
abbrev pub stale_paths : List Finding → List Path
stale_paths fs = map (λ f. f.path) (filter (λ f. is_stale f.kind) fs)

-- those of blocks from the path on
abbrev pub stale_from : CheckedFrom → List Path
stale_from (Array found) = []
stale_from (Tree c) = stale_paths c.findings.items

-- and of those above it
abbrev pub stale_of : PathCheck → List Path
stale_of c = stale_paths c.above.items ++ stale_from c.from

-- the paths at which a walk from the path on goes no further
abbrev pub passed_from : CheckedFrom → List Path
passed_from (Array found) = []
passed_from (Tree c) = passed_paths c.ignored.items c.bad_documents

-- L has enough of S for what the word asks from b on: it opens there as S does, or b means there what it means in S, or
-- it is enough for a check
abbrev pub IsEnough : Word → Contents → Contents → Path → Type 0
IsEnough TreeOf S L b = OpenSame S L Auto b
IsEnough StoreTree S L b = OpenSame S L Never b
IsEnough ListAll S L b = OpenSame S L Never b
IsEnough Show S L b = meaning L Default b ≡ meaning S Default b
IsEnough (Check options) S L b = IsCheckable S L b

-- what was made for a word of some store
abbrev pub IsWrittenOfSome : Word → Path → Option Tally × String Global → Type 0
IsWrittenOfSome word b made = (values : Values) × IsWordText word (in_any values) b made.0 (string_bytes made.1)

-- what was made for a word of each store that holds what P says
abbrev pub IsWrittenOfEach : Word → Path → (Values → Type 0) → Option Tally × String Global → Type 0
IsWrittenOfEach word b P made =
    (values : Values) → P values → IsWordText word (in_any values) b made.0 (string_bytes made.1)

-- the folder was not read; or the calls of a word refuse the path in some store
abbrev pub IsFaultOfSome : Word → Path → ZarrsFault → Type 0
IsFaultOfSome word b fault =
    RefusesFolder fault ⊎ ((values : Values) × IsAnswerFault false word (in_any values) b fault)

-- the folder was not read; or the calls of a word refuse the path in each store that holds what P says
abbrev pub IsFaultOfEach : Word → Path → (Values → Type 0) → ZarrsFault → Type 0
IsFaultOfEach word b P fault =
    RefusesFolder fault ⊎ ((values : Values) → P values → IsAnswerFault false word (in_any values) b fault)
