-- Zarr core specification 3.1, "Hierarchy": the nodes of a hierarchy as lines, in a tree and in a list.
-- <https://zarr-specs.readthedocs.io/en/latest/v3/core/index.html#hierarchy>
--     tree_line b e      the line of a node in the tree from b on
--     list_line e      the line of a node in a list
--     IsShown s policy b line_of text      the text is these lines of the nodes that opening at b finds
use Rattle.std.specs.Prelude.{◌≡◌, ℕ, ◌-◌, ◌*◌, ◌==◌, cond, List, ◌++◌, length, replicate}
use Rattle.std.specs.List.{flat_map}
use Rattle.zarrs_store.specs.Segments.{last_segment}
use Rattle.zarrs_store.specs.Contents.{Contents}
use Rattle.zarrs_path.specs.Paths.{Path, path_text}
use Rattle.zarrs_config.specs.declared.version.MetadataRetrieveVersion.TheVariants.{Default}
use Rattle.zarrs_config.specs.declared.version.UseConsolidatedMetadata.{UseConsolidatedMetadata}
use Rattle.zarrs_node.specs.Lines.{node_text}
use Rattle.zarrs_hierarchy.specs.PairsOfHierarchies.{Pairs}
use Rattle.zarrs_hierarchy.specs.OpeningHierarchies.{IsOpened}
use Rattle.zarrs_cli.specs.Escapes.{escaped_line}
use Rattle.zarrs_fault.specs.Bytes.{space}
use Rattle.zarrs_meaning.specs.Meaning.{Pair}

-- the base, which is no level below itself, is shown by its path, and every other node by its last name
abbrev pub shown_name : ℕ → Path → List ℕ
shown_name level p = cond (level == 0) (path_text p) (last_segment p)

-- so many levels below the base a node has two spaces for each level, its name and, of an array, its shape and data
-- type
abbrev pub line_at : ℕ → Pair → List ℕ
line_at level e = replicate (2 * level) space ++ (shown_name level e.0 ++ node_text e.1)

-- the line of a node in the tree from b on
abbrev pub tree_line : Path → Pair → List ℕ
tree_line b e = line_at (length e.0 - length b) e

-- the line of a node in a list: its path
abbrev pub list_line : Pair → List ℕ
list_line e = path_text e.0

-- the nodes as lines, in their order
abbrev pub shown_lines : (Pair → List ℕ) → Pairs → List ℕ
shown_lines line_of h = flat_map (λ e. escaped_line (line_of e)) h

-- the text is these lines of the hierarchy that opening at b finds: of b itself, and of what stands below it by its
-- block or by the store
abbrev pub IsShown : Contents → UseConsolidatedMetadata → Path → (Pair → List ℕ) → List ℕ → Type 0
IsShown s policy b line_of text =
    (h : Pairs) × IsOpened s Default policy (path_text b) h × (text ≡ shown_lines line_of h)
