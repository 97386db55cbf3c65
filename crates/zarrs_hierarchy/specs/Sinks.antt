-- Zarr core specification 3.1, "Hierarchy": what a sink took of the nodes below a base.
-- <https://zarr-specs.readthedocs.io/en/latest/v3/core/index.html#hierarchy>
--     AppendsNode      how the text of a hierarchy takes a node
--     TakesOpened      what a sink took of the hierarchy that opening at a path finds
use Rattle.std.specs.Prelude.{◌≡◌, ◌-◌, ◌++◌, length, string_bytes}
use Rattle.zarrs_store.specs.Contents.{Contents}
use Rattle.zarrs_path.specs.Paths.{Path, path_text}
use Rattle.zarrs_config.specs.declared.version.MetadataRetrieveVersion.{MetadataRetrieveVersion}
use Rattle.zarrs_config.specs.declared.version.UseConsolidatedMetadata.{UseConsolidatedMetadata}
use Rattle.zarrs_node.specs.Lines.{line}
use Rattle.zarrs_node.specs.Sinks.{TakesAll}
use Rattle.zarrs_hierarchy.specs.OpeningHierarchies.{IsOpened}
use Rattle.zarrs_hierarchy.specs.PairsOfHierarchies.{Pairs}
use Rattle.zarrs_hierarchy.specs.declared.tree_text.TreeText.{TreeText}
use Rattle.zarrs_meaning.specs.Meaning.{Pair}

-- the line of the node was put behind the others, a level deeper for each name beyond those of the base
pub record AppendsNode (old : TreeText) (e : Pair) (new : TreeText) : Type 0 where
  pub base : new.above ≡ old.above
  pub bytes : string_bytes new.text ≡ string_bytes old.text ++ line (length e.0 - old.above) e.0 e.1

-- z came of a by taking, one after another, the pairs of the hierarchy that opening at b finds
pub record TakesOpened {K : Type 0} (R : K → Pair → K → Type 0) (a z : K) (s : Contents) (v : MetadataRetrieveVersion)
    (policy : UseConsolidatedMetadata) (b : Path) : Type 0 where
  pub hierarchy : Pairs
  pub opened : IsOpened s v policy (path_text b) hierarchy
  pub took : TakesAll R a hierarchy z
