-- The words of a call: own, in the manner of the commands of other readers of Zarr.
-- <https://zarr-specs.readthedocs.io/en/latest/v3/core/index.html#hierarchy>
--     spelling w, request_words r      how a word is written, and a request
--     request_turned r      the request with its options in the other order
--     AreWordsOf words r source path, AreWords words      the words name this request, source and path; the words are
-- a call's
--     with_leading_slash text      the path that a text names: with a slash in front
--     AskFor words asked      the words ask this
use Rattle.std.specs.Prelude.{◌≡◌, ◌≢◌, ◌⊎◌, ℕ, nat_eq, Bool, false, cond, List, [], ◌∷◌, ◌++◌, codes}
use Rattle.std.specs.List.{starts_with}
use Rattle.zarrs_fault.specs.Bytes.{slash}
use Rattle.zarrs_cli.specs.declared.words.Asked.{Asked}
use Rattle.zarrs_cli.specs.declared.words.Asked.TheVariants.{Help, Version, Store}
use Rattle.zarrs_cli.specs.declared.words.CheckOptions.{CheckOptions}
use Rattle.zarrs_cli.specs.declared.words.ConsolidateOptions.{ConsolidateOptions}
use Rattle.zarrs_cli.specs.declared.words.Request.{Request}
use Rattle.zarrs_cli.specs.declared.words.Request.TheVariants.{Look, Consolidate}
use Rattle.zarrs_cli.specs.declared.words.Word.{Word}
use Rattle.zarrs_cli.specs.declared.words.Word.TheVariants.{Tree, StoreTree, List as ListAll, Show, Check}

-- how the options of a check are written, in the order of the usage
abbrev pub option_words : CheckOptions → List (List ℕ)
option_words options = cond options.notes (codes "--notes" ∷ []) [] ++ cond options.json (codes "--json" ∷ []) []

-- how the options of a check are written, where --json stands before --notes
abbrev pub options_turned : CheckOptions → List (List ℕ)
options_turned options = cond options.json (codes "--json" ∷ []) [] ++ cond options.notes (codes "--notes" ∷ []) []

-- how a word is written, with its options behind it
abbrev pub spelling : Word → List (List ℕ)
spelling Tree = codes "tree" ∷ []
spelling StoreTree = codes "tree" ∷ codes "--store" ∷ []
spelling ListAll = codes "list" ∷ []
spelling Show = codes "show" ∷ []
spelling (Check options) = codes "check" ∷ option_words options

-- how a word is written, with its options in the order that the usage has not, where there are two
abbrev pub spelling_turned : Word → List (List ℕ)
spelling_turned (Check options) = codes "check" ∷ options_turned options
spelling_turned word = spelling word

-- how the options of a consolidation are written, in the order of the usage
abbrev pub change_words : ConsolidateOptions → List (List ℕ)
change_words options =
    cond options.dry_run (codes "--dry-run" ∷ []) [] ++ cond options.remove (codes "--remove" ∷ []) []

-- how the options of a consolidation are written, where --remove stands before --dry-run
abbrev pub changes_turned : ConsolidateOptions → List (List ℕ)
changes_turned options =
    cond options.remove (codes "--remove" ∷ []) [] ++ cond options.dry_run (codes "--dry-run" ∷ []) []

-- how a request is written, with its options behind it
abbrev pub request_words : Request → List (List ℕ)
request_words (Look word) = spelling word
request_words (Consolidate options) = codes "consolidate" ∷ change_words options

-- how a request is written, with its options in the order that the usage has not, where there are two
abbrev pub request_turned : Request → List (List ℕ)
request_turned (Look word) = spelling_turned word
request_turned (Consolidate options) = codes "consolidate" ∷ changes_turned options

-- the text begins with two dashes, as options do
abbrev pub is_option : List ℕ → Bool
is_option text = starts_with nat_eq text (codes "--")

-- the path that a text names: with a slash in front, which may be left out, as zarr-python writes paths
abbrev pub with_leading_slash : List ℕ → List ℕ
with_leading_slash text = cond (starts_with nat_eq text (slash ∷ [])) text (slash ∷ text)

-- the text may name a store behind the request: it is no option, and where a block is written back it is not the image
-- on standard input
abbrev pub IsRequestSource : Request → List ℕ → Type 0
IsRequestSource (Look word) source = is_option source ≡ false
IsRequestSource (Consolidate options) source = (is_option source ≡ false) × (source ≢ codes "-")

-- behind the words of a request the words have a source, and the text of a path, which is `/` where it is left out
abbrev pub StandBehindRequest : List (List ℕ) → List (List ℕ) → List ℕ → List ℕ → Type 0
StandBehindRequest words request source path =
    ((words ≡ request ++ source ∷ []) × (path ≡ codes "/")) ⊎ (words ≡ request ++ source ∷ path ∷ [])

-- the words are a request, with its options in either order, a source, and the text of a path, which is no option
abbrev pub AreWordsOf : List (List ℕ) → Request → List ℕ → List ℕ → Type 0
AreWordsOf words request source path =
    IsRequestSource request source × (is_option path ≡ false)
    × (StandBehindRequest words (request_words request) source path
    ⊎ StandBehindRequest words (request_turned request) source path)

-- the words ask for the usage
abbrev pub AskHelp : List (List ℕ) → Type 0
AskHelp words = words ≡ codes "--help" ∷ []

-- the words ask for the version
abbrev pub AskVersion : List (List ℕ) → Type 0
AskVersion words = words ≡ codes "--version" ∷ []

-- the words are a call's
abbrev pub AreWords : List (List ℕ) → Type 0
AreWords words =
    AskHelp words ⊎ AskVersion words
    ⊎ ((request : Request) × (source path : List ℕ) × AreWordsOf words request source path)

-- the words ask this
abbrev pub AskFor : List (List ℕ) → Asked → Type 0
AskFor words Help = AskHelp words
AskFor words Version = AskVersion words
AskFor words (Store command) = AreWordsOf words command.request command.source.now command.path.now
