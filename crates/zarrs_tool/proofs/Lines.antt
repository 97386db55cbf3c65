-- The lines of the nodes that a walk told.
use Rattle.std.proofs.Common.{◌≡◌, Bool, [], ◌∷◌, ◌++◌, ap, ◌∙◌}
use Rattle.zarrs_store.specs.Contents.{Contents}
use Rattle.zarrs_path.specs.Paths.{Path, path_text}
use Rattle.zarrs_config.specs.declared.version.MetadataRetrieveVersion.TheVariants.{Default}
use Rattle.zarrs_node.specs.Forest.{pairs}
use Rattle.zarrs_node.specs.Nodes.{Nodes, Bad}
use Rattle.zarrs_node.specs.Sinks.{TakesForest}
use Rattle.zarrs_node.proofs.walk.SinkSteps.{took_joined}
use Rattle.zarrs_node.proofs.Order.{shown_ascend}
use Rattle.zarrs_tool.specs.Output.{IsListing, path_lines}
use Rattle.zarrs_tool.specs.Sinks.{AppendsLine}
use Rattle.zarrs_tool.specs.declared.run.PathLines.{PathLines}

-- an empty text that took the nodes below the base is their listing
pub told_lines : (store : Contents) (recursive : Bool) (base : Path) (a z : PathLines) → TakesForest AppendsLine a z base (Nodes store Default recursive base) → a.text.items ≡ [] → (Bad store Default recursive base → ⊥) → IsListing store recursive base z.text.items
told_lines store recursive base a z t empty clean = record {
  nodes = pairs t.trees;
  lists = t.shows.shown;
  ascend = shown_ascend base (Nodes store Default recursive base) t.trees t.shows;
  is = took_joined AppendsLine (λ l. l.text.items) (λ e. path_text e.0 ++ 10 ∷ []) (λ x e y r. r) a (pairs t.trees) z t.took ∙ ap (λ x. x ++ path_lines (pairs t.trees)) empty;
  clean = clean;
}
