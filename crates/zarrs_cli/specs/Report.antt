-- Zarr core specification 3.1, "Hierarchy", "Node names", "Metadata documents" and "Group metadata", with zarr-python's
-- field `consolidated_metadata` and document `.zmetadata` of version 2: the report on what a store has at a path and
-- below it.
-- <https://zarr-specs.readthedocs.io/en/latest/v3/core/index.html#hierarchy>
-- <https://zarr-specs.readthedocs.io/en/latest/v3/core/index.html#group-metadata>
-- <https://zarr.readthedocs.io/en/stable/user-guide/consolidated_metadata/>
--     IsOwnRemark s b r      what there is to tell of a path itself: its own fault, what is lost below it, or what
-- the documents of a node tell
--     IsAlikeRemark s b r      the name of a node is that of one before it but for case
--     IsAboveRemark s b r      what the block of a group above b says otherwise from b on
--     IsRemark s b r      what there is to tell: of a path itself, of names that differ in case alone, or what is
-- wrong with the block of a group at b, below it or above it
--     IsNodeRemark s p m r      what the documents of one node tell
--     IsArrayRemark s b m r      what there is to tell of an array: what its documents tell, or the block of a group
-- above it says otherwise
--     IsAskedFor options told r      what a report tells of what there is to tell: each finding, and each note where
-- notes are asked for
--     remark_cmp      the order of remarks
--     IsReport told options n tally text      the text is that of all that is told, each once, in their order
--     IsReportFrom s b options tally text      the report on what a store has from b on; nothing below an array is
-- looked at
use Rattle.std.specs.Prelude.{◌≡◌, ◌⊎◌, ℕ, Bool, false, ◌||◌, not, IsTrue, cond, if◌then◌else◌, List, [], ◌++◌}
use Rattle.std.specs.Prelude.{AllPairs, length, Some, None, codes}
use Rattle.std.specs.List.{filter, flat_map}
use Rattle.std.specs.Option.{option_cmp}
use Rattle.std.specs.Ordering.{ordering_then}
use Rattle.std.specs.declared.cmp.Ordering.{Ordering}
use Rattle.std.specs.declared.cmp.Ordering.TheVariants.{Less}
use Rattle.zarrs_store.specs.Segments.{bytes_cmp}
use Rattle.zarrs_store.specs.Contents.{Contents, Lists}
use Rattle.zarrs_path.specs.Paths.{Path, path_cmp, path_text}
use Rattle.zarrs_config.specs.declared.version.MetadataRetrieveVersion.TheVariants.{Default}
use Rattle.zarrs_meaning.specs.ErrorTexts.{error_text}
use Rattle.zarrs_meaning.specs.declared.node_create_error.NodeCreateError.{NodeCreateError}
use Rattle.zarrs_meaning.specs.Meaning.{meaning, node}
use Rattle.zarrs_meta.specs.Node.{is_group}
use Rattle.zarrs_meta.specs.declared.node.NodeMetadata.{NodeMetadata}
use Rattle.zarrs_node.specs.OpeningNodes.{RefusesNode}
use Rattle.zarrs_check.specs.Surveys.{BadDocuments, BadNames}
use Rattle.zarrs_notes.specs.FindingTexts.{node_finding_text}
use Rattle.zarrs_notes.specs.NodeFindings.{IsNodeFinding}
use Rattle.zarrs_notes.specs.declared.finding.NodeFinding.{NodeFinding}
use Rattle.zarrs_check.specs.Alike.{IsAlike}
use Rattle.zarrs_check.specs.BlocksAbove.{IsAboveFinding}
use Rattle.zarrs_check.specs.Checks.{HasNode, HasNodeAt, IsBlockFinding, IsCount, IsNodeTold}
use Rattle.zarrs_check.specs.Orphans.{IsCountBelow, IsOrphan}
use Rattle.zarrs_check.specs.declared.finding.Finding.{Finding}
use Rattle.zarrs_folder.specs.PrunedStores.{IsArrayAt}
use Rattle.zarrs_cli.specs.Escapes.{escaped_line}
use Rattle.zarrs_cli.specs.Json.{json_text}
use Rattle.zarrs_cli.specs.Kinds.{kind_word, is_note_kind, error_kind, told_kind, finding_kind, wrong_key}
use Rattle.zarrs_cli.specs.declared.kind.RemarkKind.{RemarkKind}
use Rattle.zarrs_cli.specs.declared.kind.RemarkKind.TheVariants.{Alike, BadName, Orphaned}
use Rattle.zarrs_cli.specs.declared.remark.Remark.{Remark}
use Rattle.zarrs_cli.specs.declared.report.Tally.{Tally}
use Rattle.zarrs_cli.specs.declared.words.CheckOptions.{CheckOptions}
use Rattle.zarrs_cli.specs.Texts.{alike_text, document_text, kind_text, name_text, orphan_text}

-- what there is to tell of a path itself
abbrev pub own_remark : Path → RemarkKind → List ℕ → Remark
own_remark p kind text = record { path = p; kind = kind; group = None; key = None; text = text }

-- why a path is no node
abbrev pub error_remark : Path → NodeCreateError → Remark
error_remark p e = own_remark p (error_kind e) (error_text e)

-- a bad document, with the number of paths below its own that have a document of a node
abbrev pub document_remark : Path × NodeCreateError → ℕ → Remark
document_remark d n = own_remark d.0 (error_kind d.1) (document_text d.1 n)

-- a path without a document, below which so many have one
abbrev pub orphan_remark : Path × ℕ → Remark
orphan_remark o = own_remark o.0 Orphaned (orphan_text o.1)

-- what the documents of a node at a path tell
abbrev pub told_remark : Path × NodeFinding → Remark
told_remark t = own_remark t.0 (told_kind t.1) (node_finding_text t.1)

-- a path whose name is that of another one but for case, with that one
abbrev pub alike_remark : Path × Path → Remark
alike_remark t = own_remark t.0 Alike (alike_text t.1 t.0)

-- what is wrong with the block of a group
abbrev pub remark_of : Finding → Remark
remark_of f = record {
  path = f.path;
  kind = finding_kind f.kind;
  group = Some f.group;
  key = wrong_key f.kind;
  text = kind_text f.group f.kind;
}

-- the base is no node; or a reached path has a bad document; or a child of a listed path has a name of periods only;
-- or nodes stand below a path that is passed over; or a node's
-- documents tell something
abbrev pub IsOwnRemark : Contents → Path → Remark → Type 0
IsOwnRemark s b r =
    ((e : NodeCreateError) × RefusesNode s Default b e × (r ≡ error_remark b e))
    ⊎ ((d : Path × NodeCreateError) × (n : ℕ) × BadDocuments s Default b d × IsCountBelow s d.0 n
    × (r ≡ document_remark d n))
    ⊎ ((p : Path) × BadNames s Default b p × (r ≡ own_remark p BadName (name_text p)))
    ⊎ ((o : Path × ℕ) × IsOrphan s Default b o × (r ≡ orphan_remark o))
    ⊎ ((t : Path × NodeFinding) × IsNodeTold s Default b t × (r ≡ told_remark t))

-- the name of a node is that of one before it but for case
abbrev pub IsAlikeRemark : Contents → Path → Remark → Type 0
IsAlikeRemark s b r = (t : Path × Path) × IsAlike (HasNodeAt s Default b) t × (r ≡ alike_remark t)

-- what there is to tell of what a store has at b and below it: of a path itself, of names that differ in case alone,
-- or what is wrong with a block
abbrev pub IsRemarkFrom : Contents → Path → Remark → Type 0
IsRemarkFrom s b r =
    IsOwnRemark s b r ⊎ IsAlikeRemark s b r ⊎ ((f : Finding) × IsBlockFinding s Default b f × (r ≡ remark_of f))

-- what the block of a group above b says otherwise from b on
abbrev pub IsAboveRemark : Contents → Path → Remark → Type 0
IsAboveRemark s b r = (f : Finding) × IsAboveFinding s Default b f × (r ≡ remark_of f)

-- what there is to tell from b on, the blocks above it too
abbrev pub IsRemark : Contents → Path → Remark → Type 0
IsRemark s b r = IsRemarkFrom s b r ⊎ IsAboveRemark s b r

-- what there is to tell of the node at p alone, which has the metadata m
abbrev pub IsNodeRemark : Contents → Path → NodeMetadata → Remark → Type 0
IsNodeRemark s p m r = (f : NodeFinding) × IsNodeFinding s p m f × (r ≡ told_remark (p, f))

-- what there is to tell of the array at b, which has the metadata m, the blocks above it too
abbrev pub IsArrayRemark : Contents → Path → NodeMetadata → Remark → Type 0
IsArrayRemark s b m r = IsNodeRemark s b m r ⊎ IsAboveRemark s b r

-- a report has the remark: it is a finding, or notes are asked for
abbrev pub is_asked : Bool → Remark → Bool
is_asked notes r = notes || not (is_note_kind r.kind)

-- what a report tells of what there is to tell: each finding, and each note where notes are asked for
abbrev pub IsAskedFor : CheckOptions → (Remark → Type 0) → Remark → Type 0
IsAskedFor options told r = told r × IsTrue (is_asked options.notes r)

-- ---- the order

-- by path, of one path those of no group first and then by group, of one group those of no key first and then by key,
-- of one key by text, and of one text by
-- the word for the kind
abbrev pub remark_cmp : Remark → Remark → Ordering
remark_cmp q r =
    ordering_then
    (ordering_then
    (ordering_then (ordering_then (path_cmp q.path r.path) (option_cmp path_cmp q.group r.group))
    (option_cmp bytes_cmp q.key r.key))
    (bytes_cmp q.text r.text))
    (bytes_cmp (kind_word q.kind) (kind_word r.kind))

-- each remark stands before all later ones
abbrev pub RemarksAscend : List Remark → Type 0
RemarksAscend rs = AllPairs (λ q r. remark_cmp q r ≡ Less) rs

-- ---- the text

-- what the line of a note begins with
abbrev pub note_mark : RemarkKind → List ℕ
note_mark kind = if is_note_kind kind then codes "note: " else []

-- what the line of a remark says: that it is a note, where it is one, the path, a colon and what there is to tell
abbrev pub line_of : Remark → List ℕ
line_of r = note_mark r.kind ++ (path_text r.path ++ (codes ": " ++ r.text))

-- the lines of remarks
abbrev pub report_text : List Remark → List ℕ
report_text rs = flat_map (λ r. escaped_line (line_of r)) rs

-- the lines of remarks, or where it is asked for their JSON
abbrev pub remarks_text : CheckOptions → List Remark → List ℕ
remarks_text options rs = if options.json then json_text rs else report_text rs

-- ---- the numbers

-- how many remarks are findings
abbrev pub findings_among : List Remark → ℕ
findings_among rs = length (filter (λ r. not (is_note_kind r.kind)) rs)

-- how many are notes
abbrev pub notes_among : List Remark → ℕ
notes_among rs = length (filter (λ r. is_note_kind r.kind) rs)

-- of so many nodes these remarks were told
abbrev pub tally_of : CheckOptions → ℕ → List Remark → Tally
tally_of options nodes rs = record {
  nodes = nodes;
  findings = findings_among rs;
  notes = cond options.notes (Some (notes_among rs)) None;
}

-- the text is that of exactly what a report tells of what there is to tell, each once, in their order; the tally has
-- their numbers, and that of the nodes
pub record IsReport (told : Remark → Type 0) (options : CheckOptions) (nodes : ℕ) (tally : Tally)
    (text : List ℕ) : Type 0 where
  pub remarks : List Remark
  pub lists : Lists (IsAskedFor options told) remarks
  pub ascend : RemarksAscend remarks
  pub is : text ≡ remarks_text options remarks
  pub numbers : tally ≡ tally_of options nodes remarks

-- b means an array with these metadata
abbrev pub IsArrayOf : Contents → Path → NodeMetadata → Type 0
IsArrayOf s b m = (meaning s Default b ≡ node m) × (is_group m ≡ false)

-- the report on the array at b: it is one node, and nothing below it is looked at
abbrev pub IsArrayReport : Contents → Path → CheckOptions → Tally → List ℕ → Type 0
IsArrayReport s b options tally text =
    (m : NodeMetadata) × IsArrayOf s b m × IsReport (IsArrayRemark s b m) options 1 tally text

-- the report on all that a store has at b and below it
abbrev pub IsWholeReport : Contents → Path → CheckOptions → Tally → List ℕ → Type 0
IsWholeReport s b options tally text =
    (nodes : ℕ) × IsCount (HasNode s Default b) nodes × IsReport (IsRemark s b) options nodes tally text

-- the report from b on: that on the array at b, or on all that is at b and below it
abbrev pub IsReportFrom : Contents → Path → CheckOptions → Tally → List ℕ → Type 0
IsReportFrom s b options tally text =
    IsArrayReport s b options tally text ⊎ ((IsArrayAt s b → ⊥) × IsWholeReport s b options tally text)
