-- The text of what there is to tell of a node, as it stands behind the path of the node (Zarr core specification 3.1,
-- "Array metadata", "Group metadata" and "Extension points").
-- <https://zarr-specs.readthedocs.io/en/latest/v3/core/index.html#array-metadata>
-- <https://zarr-specs.readthedocs.io/en/latest/v3/core/index.html#group-metadata>
use Rattle.std.specs.Prelude.{ℕ, List, ◌++◌, codes}
use Rattle.std.specs.Fmt.{decimal}
use Rattle.zarrs_path.specs.Paths.{path_text}
use Rattle.zarrs_notes.specs.BesideDocuments.{name_of_file}
use Rattle.zarrs_notes.specs.declared.finding.NodeFinding.{NodeFinding}
use Rattle.zarrs_notes.specs.declared.finding.NodeFinding.TheVariants.{NoLengths, GridRank, ZeroLength, NameCount}
use Rattle.zarrs_notes.specs.declared.finding.NodeFinding.TheVariants.{FillValue, NoCodecs, UnknownField}
use Rattle.zarrs_notes.specs.declared.finding.NodeFinding.TheVariants.{DemandingBlock, MisplacedBlock}
use Rattle.zarrs_notes.specs.declared.finding.NodeFinding.TheVariants.{Beside, LeftOver}

-- what there is to tell
abbrev pub node_finding_text : NodeFinding → List ℕ
node_finding_text NoLengths = codes "bad shape: a regular chunk grid has no list of lengths"
node_finding_text (GridRank lengths shape) =
    codes "bad shape: the chunk grid has "
    ++ (decimal lengths ++ (codes " lengths, and the shape has " ++ decimal shape))
node_finding_text ZeroLength = codes "bad shape: a chunk has the length 0"
node_finding_text (NameCount names shape) =
    codes "bad shape: there are " ++ (decimal names ++ (codes " dimension names, and the shape has " ++ decimal shape))
node_finding_text (FillValue data_type) = codes "bad fill value: it is no value of " ++ data_type
node_finding_text NoCodecs = codes "bad codecs: there is none, and one has to make bytes of a chunk"
node_finding_text (UnknownField name) = codes "not opened: the field " ++ (name ++ codes " must be understood")
node_finding_text (DemandingBlock group) =
    codes "not opened: the block of " ++ (path_text group ++ codes " has no must_understand false")
node_finding_text MisplacedBlock = codes "misplaced: an array has a block, which is not read"
node_finding_text (Beside file document) =
    codes "beside: "
    ++ (name_of_file file ++ (codes " is not read, since " ++ (name_of_file document ++ codes " stands there too")))
node_finding_text (LeftOver file) =
    codes "left over: " ++ (name_of_file file ++ codes " is of a run that was broken off, or that still writes")
