-- The kinds of what there is to tell of a store: of its paths (Zarr core specification 3.1, "Hierarchy", "Node names"
-- and "Metadata documents") and of its blocks ("Group metadata", with zarr-python's field `consolidated_metadata` and
-- document `.zmetadata` of version 2).
-- <https://zarr-specs.readthedocs.io/en/latest/v3/core/index.html#hierarchy>
-- <https://zarr.readthedocs.io/en/stable/user-guide/consolidated_metadata/>
--     kind_word kind      the word for a kind
--     is_note_kind kind      what is of the kind is a note, and no finding
--     error_kind e, told_kind f, finding_kind kind      the kind of why a node is refused, of what its documents
-- tell, and of what is wrong with a block
--     wrong_key kind      the key of the block that is wrong, if it is one
use Rattle.std.specs.Prelude.{ℕ, Bool, true, false, List, Option, Some, None, codes}
use Rattle.zarrs_meaning.specs.declared.node_create_error.NodeCreateError.{NodeCreateError}
use Rattle.zarrs_meaning.specs.declared.node_create_error.NodeCreateError.TheVariants.{MissingMetadata}
use Rattle.zarrs_notes.specs.declared.finding.NodeFinding.{NodeFinding}
use Rattle.zarrs_notes.specs.declared.finding.NodeFinding.TheVariants as told
use Rattle.zarrs_check.specs.declared.finding.FindingKind.{FindingKind}
use Rattle.zarrs_check.specs.declared.finding.FindingKind.TheVariants as found
use Rattle.zarrs_cli.specs.declared.kind.RemarkKind.{RemarkKind}
use Rattle.zarrs_cli.specs.declared.kind.RemarkKind.TheVariants.{BadDocument, BadName, NoNode, Orphaned, BadShape}
use Rattle.zarrs_cli.specs.declared.kind.RemarkKind.TheVariants.{BadFillValue, BadCodecs, NotOpened, BadBlock, BadKey}
use Rattle.zarrs_cli.specs.declared.kind.RemarkKind.TheVariants.{Shadowed, OwnKey}
use Rattle.zarrs_cli.specs.declared.kind.RemarkKind.TheVariants.{OwnAttributes, Differs, Unreachable, Stale, Unreached}
use Rattle.zarrs_cli.specs.declared.kind.RemarkKind.TheVariants.{Missing, Misplaced, Beside, Alike, LeftOver}

-- the word for a kind
abbrev pub kind_word : RemarkKind → List ℕ
kind_word BadDocument = codes "bad-document"
kind_word BadName = codes "bad-name"
kind_word NoNode = codes "no-node"
kind_word Orphaned = codes "orphaned"
kind_word BadShape = codes "bad-shape"
kind_word BadFillValue = codes "bad-fill-value"
kind_word BadCodecs = codes "bad-codecs"
kind_word NotOpened = codes "not-opened"
kind_word BadBlock = codes "bad-block"
kind_word BadKey = codes "bad-key"
kind_word Shadowed = codes "shadowed"
kind_word OwnKey = codes "own-key"
kind_word OwnAttributes = codes "own-attributes"
kind_word Differs = codes "differs"
kind_word Unreachable = codes "unreachable"
kind_word Stale = codes "stale"
kind_word Unreached = codes "unreached"
kind_word Missing = codes "missing"
kind_word Misplaced = codes "misplaced"
kind_word Beside = codes "beside"
kind_word Alike = codes "alike"
kind_word LeftOver = codes "left-over"

-- a note is worth knowing, and no reader goes wrong by it: a block of an array, a document beside the one that is
-- read, names that differ in case alone, and a file of a run of writing
abbrev pub is_note_kind : RemarkKind → Bool
is_note_kind Misplaced = true
is_note_kind Beside = true
is_note_kind Alike = true
is_note_kind LeftOver = true
is_note_kind _ = false

-- a node is refused since there is no document, or since that is bad
abbrev pub error_kind : NodeCreateError → RemarkKind
error_kind (MissingMetadata text) = NoNode
error_kind _ = BadDocument

-- what the own documents of a node tell: that its dimensions, its fill value or its codecs do not fit, that a reader
-- refuses to open it, what is not read, or what a run of writing left
abbrev pub told_kind : NodeFinding → RemarkKind
told_kind told.NoLengths = BadShape
told_kind (told.GridRank lengths shape) = BadShape
told_kind told.ZeroLength = BadShape
told_kind (told.NameCount names shape) = BadShape
told_kind (told.FillValue data_type) = BadFillValue
told_kind told.NoCodecs = BadCodecs
told_kind (told.UnknownField name) = NotOpened
told_kind (told.DemandingBlock group) = NotOpened
told_kind told.MisplacedBlock = Misplaced
told_kind (told.Beside file document) = Beside
told_kind (told.LeftOver file) = LeftOver

-- what is wrong with a block
abbrev pub finding_kind : FindingKind → RemarkKind
finding_kind (found.BlockFault fault) = BadBlock
finding_kind (found.BadKey key) = BadKey
finding_kind (found.Shadowed key) = Shadowed
finding_kind (found.OwnKey key) = OwnKey
finding_kind found.OwnAttributes = OwnAttributes
finding_kind found.Unreachable = Unreachable
finding_kind found.Stale = Stale
finding_kind found.Unreached = Unreached
finding_kind found.Differs = Differs
finding_kind found.Missing = Missing

-- the key of the block that is wrong; where a path is, or the whole block, there is none
abbrev pub wrong_key : FindingKind → Option (List ℕ)
wrong_key (found.BadKey key) = Some key
wrong_key (found.Shadowed key) = Some key
wrong_key (found.OwnKey key) = Some key
wrong_key _ = None
