-- Steps of telling what there is to tell of a node, as lists, part by part; no public contract rests on them.
use Rattle.std.specs.Prelude.{◌≡◌, ◌==◌, ◌&&◌, ℕ, Bool, true, false, not, if◌then◌else◌, List, [], ◌∷◌, ◌++◌, length}
use Rattle.std.specs.Prelude.{Option, Some, None, option_map, is_some, String}
use Rattle.std.specs.FinMap as map
use Rattle.std.specs.Global.{Global}
use Rattle.serde_json.specs.Data.{Data, Members, no_members, member}
use Rattle.serde_json.specs.Find.{get_member}
use Rattle.serde_json.specs.View.{members_of}
use Rattle.zarrs_store.specs.Contents.{Contents}
use Rattle.zarrs_path.specs.Paths.{Path}
use Rattle.zarrs_form.specs.Documents.{is_null}
use Rattle.zarrs_form.specs.Fields.{must_understand}
use Rattle.zarrs_form.specs.FormsV2.{has_zero}
use Rattle.zarrs_form.specs.SortedMembers.{NamesAscend}
use Rattle.zarrs_meta.specs.declared.node.ArrayMetadata.TheVariants.{V3, V2}
use Rattle.zarrs_meta.specs.declared.node.NodeMetadata.{NodeMetadata}
use Rattle.zarrs_meta.specs.declared.node.NodeMetadata.TheVariants.{Group, Array}
use Rattle.zarrs_notes.specs.BesideDocuments.{name_of_file}
use Rattle.zarrs_notes.specs.Demands.{block_name, field_finding}
use Rattle.zarrs_notes.specs.FillValues.{is_fill_value}
use Rattle.zarrs_notes.specs.Shapes.{rank, is_regular, lengths_of_chunks, names_of_dimensions}
use Rattle.zarrs_notes.specs.declared.file.NodeFile.{NodeFile}
use Rattle.zarrs_notes.specs.declared.file.NodeFile.TheVariants.{Zmetadata}
use Rattle.zarrs_notes.specs.declared.finding.NodeFinding.{NodeFinding}
use Rattle.zarrs_notes.specs.declared.finding.NodeFinding.TheVariants.{NoLengths, GridRank, ZeroLength, NameCount}
use Rattle.zarrs_notes.specs.declared.finding.NodeFinding.TheVariants.{FillValue, NoCodecs, Beside, LeftOver}
use Rattle.zarrs_notes.specs.declared.shapes.Lengths.{Lengths}

-- the finding where there is cause, else none
abbrev pub told_if : Bool → NodeFinding → List NodeFinding
told_if true f = f ∷ []
told_if false f = []

-- ---- dimensions

-- how many lengths there are, and whether some is 0
abbrev pub measure : List ℕ → Lengths
measure lengths = record { count = length lengths; has_zero = has_zero lengths }

-- the same, where there are lengths
abbrev pub measure_of : Option (List ℕ) → Option Lengths
measure_of lengths = option_map measure lengths

-- what is told of the lengths of a chunk, of chunks that are regular or not
abbrev pub chunk_findings : ℕ → Bool → Option Lengths → List NodeFinding
chunk_findings r regular None = told_if regular NoLengths
chunk_findings r regular (Some l) = told_if (not (l.count == r)) (GridRank l.count r) ++ told_if l.has_zero ZeroLength

-- what is told of the dimension names
abbrev pub name_findings : ℕ → Option (List (Option (List ℕ))) → List NodeFinding
name_findings r None = []
name_findings r (Some names) = told_if (not (length names == r)) (NameCount (length names) r)

-- what is told of the dimensions of a node
abbrev pub shape_findings : NodeMetadata → List NodeFinding
shape_findings m =
    chunk_findings (rank m) (is_regular m) (measure_of (lengths_of_chunks m))
    ++ name_findings (rank m) (names_of_dimensions m)

-- ---- the fill value and the codecs

-- what is told of a fill value of a data type
abbrev pub fill_findings : List ℕ → Data → List NodeFinding
fill_findings name d = told_if (not (is_fill_value name d)) (FillValue name)

-- what is told of the fill value and the codecs of a node
abbrev pub value_findings : NodeMetadata → List NodeFinding
value_findings (Group g) = []
value_findings (Array (V2 a)) = []
value_findings (Array (V3 a)) =
    fill_findings a.data_type.name a.fill_value ++ told_if (length a.codecs == 0) NoCodecs

-- ---- fields

-- what is told of the fields that must be understood, as they stand
abbrev pub field_findings : Path → Members → List NodeFinding
field_findings p no_members = []
field_findings p (member k d ms) =
    if must_understand d then field_finding p k ∷ field_findings p ms else field_findings p ms

-- the members stand in the order of their names
abbrev pub FieldsAscend : Members → Type 0
FieldsAscend ms = (es : List (String Global × Data)) × NamesAscend es × (members_of es ≡ ms)

-- ---- documents

-- the store has this document of p
abbrev pub has_file : Contents → Path → NodeFile → Bool
has_file s p file = map.contains_key s.values (p ++ name_of_file file ∷ [])

-- there is a block among the fields, which is not null
abbrev pub has_block : Members → Bool
has_block fields = is_some (get_member block_name fields) && not (is_null (get_member block_name fields))

-- the node is an array and has a block
abbrev pub is_misplaced : Contents → Path → NodeMetadata → Bool
is_misplaced s p (Group g) = false
is_misplaced s p (Array (V3 a)) = has_block a.additional_fields
is_misplaced s p (Array (V2 a)) = has_file s p Zmetadata

-- what is told of a document that stands there: beside the document d it is not read, and beside none it is left over
abbrev pub file_finding : Option NodeFile → NodeFile → NodeFinding
file_finding (Some d) file = Beside file d
file_finding None file = LeftOver file

-- what is told of those documents that stand there
abbrev pub file_findings : Contents → Path → Option NodeFile → List NodeFile → List NodeFinding
file_findings s p d [] = []
file_findings s p d (file ∷ files) = told_if (has_file s p file) (file_finding d file) ++ file_findings s p d files
