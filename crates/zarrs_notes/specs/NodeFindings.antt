-- Zarr core specification 3.1, "Array metadata", "Group metadata" and "Extension points", and specification version
-- 2, "Arrays": what there is to tell of one node by its own documents.
-- <https://zarr-specs.readthedocs.io/en/latest/v3/core/index.html#array-metadata>
-- <https://zarr-specs.readthedocs.io/en/latest/v3/core/index.html#group-metadata>
-- <https://zarr-specs.readthedocs.io/en/latest/v2/v2.0.html#arrays>
--     IsNodeFinding s p m f      what there is to tell of the node at p with the metadata m
--     is_note f      it is a note and no finding
--     AreNodeFindings s p m found      the findings are exactly what there is to tell of the node, each once, in order
use Rattle.std.specs.Prelude.{◌≡◌, ◌≢◌, ◌↔◌, ◌⊎◌, ◌<◌, ℕ, Bool, true, false, List, [], Option, Some, None, length}
use Rattle.std.specs.Prelude.{AllPairs}
use Rattle.std.specs.Prelude.{Contains}
use Rattle.std.specs.declared.cmp.Ordering.TheVariants.{Less}
use Rattle.serde_json.specs.Data.{Data}
use Rattle.serde_json.specs.Find.{get_member}
use Rattle.zarrs_store.specs.Segments.{bytes_cmp}
use Rattle.zarrs_store.specs.Contents.{Contents}
use Rattle.zarrs_path.specs.Paths.{Path}
use Rattle.zarrs_form.specs.Fields.{must_understand}
use Rattle.zarrs_meta.specs.declared.node.ArrayMetadata.TheVariants.{V3, V2}
use Rattle.zarrs_meta.specs.declared.node.NodeMetadata.{NodeMetadata}
use Rattle.zarrs_meta.specs.declared.node.NodeMetadata.TheVariants.{Group, Array}
use Rattle.zarrs_notes.specs.Shapes.{rank, is_regular, lengths_of_chunks, names_of_dimensions}
use Rattle.zarrs_notes.specs.FillValues.{is_fill_value}
use Rattle.zarrs_notes.specs.Demands.{fields_of, block_name, field_finding}
use Rattle.zarrs_notes.specs.BesideDocuments.{HasFile, HasMisplacedBlock, main_document, passed_over, left_over}
use Rattle.zarrs_notes.specs.declared.file.NodeFile.{NodeFile}
use Rattle.zarrs_notes.specs.declared.file.NodeFile.TheVariants.{ZarrJson, Zarray, Zgroup, Zattrs, Zmetadata}
use Rattle.zarrs_notes.specs.declared.file.NodeFile.TheVariants.{NewZarrJson, NewZmetadata}
use Rattle.zarrs_notes.specs.declared.finding.NodeFinding.{NodeFinding}
use Rattle.zarrs_notes.specs.declared.finding.NodeFinding.TheVariants.{NoLengths, GridRank, ZeroLength, NameCount}
use Rattle.zarrs_notes.specs.declared.finding.NodeFinding.TheVariants.{FillValue, NoCodecs, UnknownField}
use Rattle.zarrs_notes.specs.declared.finding.NodeFinding.TheVariants.{DemandingBlock, MisplacedBlock}
use Rattle.zarrs_notes.specs.declared.finding.NodeFinding.TheVariants.{Beside, LeftOver}

-- the chunks are regular, and have no lengths
abbrev pub IsLengthsFinding : NodeMetadata → NodeFinding → Type 0
IsLengthsFinding m f = (is_regular m ≡ true) × (lengths_of_chunks m ≡ None) × (f ≡ NoLengths)

-- a chunk has another number of lengths than the shape
abbrev pub IsGridFinding : NodeMetadata → NodeFinding → Type 0
IsGridFinding m f =
    (lengths : List ℕ) × (lengths_of_chunks m ≡ Some lengths) × (length lengths ≢ rank m)
    × (f ≡ GridRank (length lengths) (rank m))

-- a chunk has the length 0
abbrev pub IsZeroFinding : NodeMetadata → NodeFinding → Type 0
IsZeroFinding m f = (lengths : List ℕ) × (lengths_of_chunks m ≡ Some lengths) × Contains lengths 0 × (f ≡ ZeroLength)

-- there is another number of dimension names than the shape has lengths
abbrev pub IsNameFinding : NodeMetadata → NodeFinding → Type 0
IsNameFinding m f =
    (names : List (Option (List ℕ))) × (names_of_dimensions m ≡ Some names) × (length names ≢ rank m)
    × (f ≡ NameCount (length names) (rank m))

-- the data type of a version 3 array does not have its fill value
abbrev pub IsFillFinding : NodeMetadata → NodeFinding → Type 0
IsFillFinding (Group g) f = ⊥
IsFillFinding (Array (V2 a)) f = ⊥
IsFillFinding (Array (V3 a)) f =
    (is_fill_value a.data_type.name a.fill_value ≡ false) × (f ≡ FillValue a.data_type.name)

-- a version 3 array has no codecs, of which one has to make bytes of a chunk
abbrev pub IsCodecFinding : NodeMetadata → NodeFinding → Type 0
IsCodecFinding (Group g) f = ⊥
IsCodecFinding (Array (V2 a)) f = ⊥
IsCodecFinding (Array (V3 a)) f = (a.codecs ≡ []) × (f ≡ NoCodecs)

-- an additional field of the group must be understood
abbrev pub IsFieldFinding : Path → NodeMetadata → NodeFinding → Type 0
IsFieldFinding p m f =
    (name : List ℕ) × (d : Data) × (get_member name (fields_of m) ≡ Some d) × (must_understand d ≡ true)
    × (f ≡ field_finding p name)

-- an array has a block
abbrev pub IsMisplacedFinding : Contents → Path → NodeMetadata → NodeFinding → Type 0
IsMisplacedFinding s p m f = HasMisplacedBlock s p m × (f ≡ MisplacedBlock)

-- a document is not read beside the one that makes the node
abbrev pub IsBesideFinding : Contents → Path → NodeMetadata → NodeFinding → Type 0
IsBesideFinding s p m f =
    (file : NodeFile) × Contains (passed_over m) file × HasFile s p file × (f ≡ Beside file (main_document m))

-- a file of a run of writing stands there
abbrev pub IsLeftOverFinding : Contents → Path → NodeMetadata → NodeFinding → Type 0
IsLeftOverFinding s p m f = (file : NodeFile) × Contains (left_over m) file × HasFile s p file × (f ≡ LeftOver file)

-- what there is to tell of the node at p that has these metadata
abbrev pub IsNodeFinding : Contents → Path → NodeMetadata → NodeFinding → Type 0
IsNodeFinding s p m f =
    IsLengthsFinding m f ⊎ IsGridFinding m f ⊎ IsZeroFinding m f ⊎ IsNameFinding m f ⊎ IsFillFinding m f
    ⊎ IsCodecFinding m f ⊎ IsFieldFinding p m f ⊎ IsMisplacedFinding s p m f ⊎ IsBesideFinding s p m f
    ⊎ IsLeftOverFinding s p m f

-- a misplaced block, a document beside another and what is left over are notes, worth knowing while the node reads as
-- it did; all else is a finding
abbrev pub is_note : NodeFinding → Bool
is_note NoLengths = false
is_note (GridRank lengths shape) = false
is_note ZeroLength = false
is_note (NameCount names shape) = false
is_note (FillValue data_type) = false
is_note NoCodecs = false
is_note (UnknownField name) = false
is_note (DemandingBlock group) = false
is_note MisplacedBlock = true
is_note (Beside file document) = true
is_note (LeftOver file) = true

-- ---- the order

-- the place of a document among others
abbrev pub file_place : NodeFile → ℕ
file_place ZarrJson = 7
file_place Zarray = 8
file_place Zgroup = 9
file_place Zattrs = 10
file_place Zmetadata = 11
file_place NewZarrJson = 12
file_place NewZmetadata = 13

-- the place of a finding: the dimensions, the fill value, the codecs, the fields of a group, a misplaced block, and
-- documents by their kinds, of which those that are left over come last; what has no lengths has no other number of
-- them
abbrev pub place_of : NodeFinding → ℕ
place_of NoLengths = 0
place_of (GridRank lengths shape) = 0
place_of ZeroLength = 1
place_of (NameCount names shape) = 2
place_of (FillValue data_type) = 3
place_of NoCodecs = 4
place_of (UnknownField name) = 5
place_of (DemandingBlock group) = 5
place_of MisplacedBlock = 6
place_of (Beside file document) = file_place file
place_of (LeftOver file) = file_place file

-- the name of the field that a finding is of, and nothing where it is of no field
abbrev pub field_of : NodeFinding → List ℕ
field_of (UnknownField name) = name
field_of (DemandingBlock group) = block_name
field_of _ = []

-- a finding stands before another: its place does, or of one place the name of its field
abbrev pub ComesBefore : NodeFinding → NodeFinding → Type 0
ComesBefore f h = (place_of f < place_of h) ⊎ ((place_of f ≡ place_of h) × (bytes_cmp (field_of f) (field_of h) ≡ Less))

-- the findings are exactly what there is to tell of the node at p that has these metadata, each once, in their order
pub record AreNodeFindings (s : Contents) (p : Path) (m : NodeMetadata) (found : List NodeFinding) : Type 0 where
  pub exact : (f : NodeFinding) → Contains found f ↔ IsNodeFinding s p m f
  pub ascend : AllPairs ComesBefore found
