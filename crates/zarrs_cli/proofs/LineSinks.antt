-- What the lines of a hierarchy are, by what they took of it.
use Rattle.std.proofs.Common.{◌≡◌, ◌-◌, [], ◌∷◌, ◌++◌, length, sym, ap, ◌∙◌, append_assoc, append-nil, string_bytes}
use Rattle.zarrs_store.specs.Contents.{Contents}
use Rattle.zarrs_path.specs.Paths.{Path}
use Rattle.zarrs_config.specs.declared.version.MetadataRetrieveVersion.TheVariants.{Default}
use Rattle.zarrs_config.specs.declared.version.UseConsolidatedMetadata.{UseConsolidatedMetadata}
use Rattle.zarrs_node.specs.Sinks.{TakesAll}
use Rattle.zarrs_hierarchy.specs.PairsOfHierarchies.{Pairs}
use Rattle.zarrs_hierarchy.specs.Sinks.{TakesOpened}
use Rattle.zarrs_cli.specs.Escapes.{escaped_line}
use Rattle.zarrs_cli.specs.LineSinks.{AppendsTreeLine, AppendsListLine}
use Rattle.zarrs_cli.specs.NodeLines.{IsShown, line_at, list_line, shown_lines, tree_line}
use Rattle.zarrs_cli.specs.declared.shown.ListLines.{ListLines}
use Rattle.zarrs_cli.specs.declared.shown.TreeLines.{TreeLines}

-- the lines of a tree that took pairs have the line of each behind those they had
tree_took : (b : Path) (a : TreeLines) (es : Pairs) (z : TreeLines) → TakesAll AppendsTreeLine a es z → a.above ≡ length b
    → string_bytes z.text ≡ string_bytes a.text ++ shown_lines (tree_line b) es
tree_took b a [] z t at = ap (λ (x : TreeLines). string_bytes x.text) t ∙ sym (append-nil (string_bytes a.text))
tree_took b a (e ∷ es) z t at =
    tree_took b t.0 es z t.2 (t.1.base ∙ at)
    ∙ ap (λ w. w ++ shown_lines (tree_line b) es) (t.1.bytes ∙ ap (λ n. string_bytes a.text ++ escaped_line (line_at (length e.0 - n) e)) at)
    ∙ append_assoc (string_bytes a.text) (escaped_line (tree_line b e)) (shown_lines (tree_line b) es)

-- those of a list do too
list_took : (a : ListLines) (es : Pairs) (z : ListLines) → TakesAll AppendsListLine a es z → string_bytes z.text ≡ string_bytes a.text ++ shown_lines list_line es
list_took a [] z t = ap (λ (x : ListLines). string_bytes x.text) t ∙ sym (append-nil (string_bytes a.text))
list_took a (e ∷ es) z t =
    list_took t.0 es z t.2
    ∙ ap (λ w. w ++ shown_lines list_line es) t.1
    ∙ append_assoc (string_bytes a.text) (escaped_line (list_line e)) (shown_lines list_line es)

-- lines of a tree that were none and took the hierarchy at their base show it
pub tree_shown : (s : Contents) (policy : UseConsolidatedMetadata) (b : Path) (a z : TreeLines) → a.above ≡ length b → string_bytes a.text ≡ []
    → TakesOpened AppendsTreeLine a z s Default policy b → IsShown s policy b (tree_line b) (string_bytes z.text)
tree_shown s policy b a z at none t = (t.hierarchy, t.opened, tree_took b a t.hierarchy z t.took at ∙ ap (λ w. w ++ shown_lines (tree_line b) t.hierarchy) none)

-- so do those of a list
pub list_shown : (s : Contents) (policy : UseConsolidatedMetadata) (b : Path) (a z : ListLines) → string_bytes a.text ≡ []
    → TakesOpened AppendsListLine a z s Default policy b → IsShown s policy b list_line (string_bytes z.text)
list_shown s policy b a z none t = (t.hierarchy, t.opened, list_took a t.hierarchy z t.took ∙ ap (λ w. w ++ shown_lines list_line t.hierarchy) none)
