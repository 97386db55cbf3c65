-- Steps of a report: the remarks of a check, before they are put in order; no public contract rests on them.
use Rattle.std.specs.Prelude.{ℕ, List, [], ◌∷◌, ◌++◌, map, zip, Option, Some, None}
use Rattle.std.specs.List.{filter}
use Rattle.std.specs.List.Sorted.{IsPermutation, IsSorted}
use Rattle.zarrs_path.specs.Paths.{Path}
use Rattle.zarrs_meaning.specs.declared.node_create_error.NodeCreateError.{NodeCreateError}
use Rattle.zarrs_notes.specs.declared.finding.NodeFinding.{NodeFinding}
use Rattle.zarrs_check.specs.declared.check.Check.{Check}
use Rattle.zarrs_check.specs.declared.path_check.CheckedFrom.{CheckedFrom}
use Rattle.zarrs_check.specs.declared.path_check.CheckedFrom.TheVariants.{Array, Tree}
use Rattle.zarrs_check.specs.declared.path_check.PathCheck.{PathCheck}
use Rattle.zarrs_cli.specs.declared.remark.Remark.{Remark}
use Rattle.zarrs_cli.specs.declared.kind.RemarkKind.TheVariants.{BadName}
use Rattle.zarrs_cli.specs.declared.words.CheckOptions.{CheckOptions}
use Rattle.zarrs_cli.specs.Report.{alike_remark, own_remark, error_remark, document_remark, is_asked, orphan_remark}
use Rattle.zarrs_cli.specs.Report.{remark_cmp, remark_of, told_remark}
use Rattle.zarrs_cli.specs.Texts.{name_text}

-- the fault of the base, where it has one
abbrev pub base_remarks : Path → Option NodeCreateError → List Remark
base_remarks b None = []
base_remarks b (Some e) = error_remark b e ∷ []

-- the faults of bad documents, each with the number of paths below it that have a document
abbrev pub document_remarks : List (Path × NodeCreateError) → List ℕ → List Remark
document_remarks ds ns = map (λ e. document_remark e.0 e.1) (zip ds ns)

-- the fault of a bad name
abbrev pub name_remark : Path → Remark
name_remark p = own_remark p BadName (name_text p)

-- the own faults of paths, what is lost below those without documents, and what the documents of nodes tell
abbrev pub own_remarks : Check → List Remark
own_remarks c =
    base_remarks c.path c.base_fault
    ++ (document_remarks c.bad_documents c.hidden.items
    ++ (map name_remark c.bad_names.items ++ (map orphan_remark c.orphans.items ++ map told_remark c.told.items)))

-- what the documents of one node tell
abbrev pub node_remarks : Path → List NodeFinding → List Remark
node_remarks p found = map (λ f. told_remark (p, f)) found

-- the own faults of paths, the names that differ in case alone, and what there is to tell of blocks
abbrev pub all_remarks : Check → List Remark
all_remarks c = (own_remarks c ++ map alike_remark c.alike.items) ++ map remark_of c.findings.items

-- how many nodes there are from a path on: an array is one
abbrev pub nodes_from : CheckedFrom → ℕ
nodes_from (Array found) = 1
nodes_from (Tree c) = c.nodes

-- what there is to tell from a path on
abbrev pub remarks_from : Path → CheckedFrom → List Remark
remarks_from b (Array found) = node_remarks b found.items
remarks_from b (Tree c) = all_remarks c

-- and the blocks above it
abbrev pub path_remarks : Path → PathCheck → List Remark
path_remarks b c = remarks_from b c.from ++ map remark_of c.above.items

-- those that a report has
abbrev pub asked_of : CheckOptions → List Remark → List Remark
asked_of options rs = filter (is_asked options.notes) rs

-- the remarks are the others in their order
pub record AreSorted (qs rs : List Remark) : Type 0 where
  pub moved : IsPermutation qs rs
  pub ordered : IsSorted remark_cmp rs
