-- Zarr core specification 3.1, "Hierarchy": both printings of one group.
-- <https://zarr-specs.readthedocs.io/en/latest/v3/core/index.html#hierarchy>
use Rattle.std.specs.Prelude.{◌≡◌, ℕ, List, [], ◌∷◌, ◌++◌, IsTrue, codes}
use Rattle.zarrs_store.specs.Contents.{Contents}
use Rattle.zarrs_path.specs.Paths.{Path, IsPath, path_text}
use Rattle.zarrs_meta.specs.Node.{is_group}
use Rattle.zarrs_meta.specs.declared.node.NodeMetadata.{NodeMetadata}
use Rattle.zarrs_config.specs.declared.version.MetadataRetrieveVersion.{MetadataRetrieveVersion}
use Rattle.zarrs_config.specs.declared.version.UseConsolidatedMetadata.{UseConsolidatedMetadata}
use Rattle.zarrs_block.specs.Block.{Entries}
use Rattle.zarrs_block.specs.Policy.{Choice, use_block, list_store, refuse}
use Rattle.zarrs_node.specs.Forest.{Forest}
use Rattle.zarrs_node.specs.Lines.{tree_text}
use Rattle.zarrs_meaning.specs.Meaning.{meaning, node}
use Rattle.zarrs_node.specs.OpeningNodes.{choice, ShowsBelow}
use Rattle.zarrs_node.specs.Reach.{Closed}
use Rattle.zarrs_hierarchy.specs.PairsOfHierarchies.{Pairs}
use Rattle.zarrs_hierarchy.specs.OpeningHierarchies.{IsOpened}
use Rattle.zarrs_hierarchy.specs.Tree.{IsTreeOf, shown_text}
use Rattle.zarrs_node.specs.Order.{Ascend}
use Rattle.zarrs_fault.specs.Bytes.{newline}

-- a block is used, whose entries below b are closed, or the store is listed; and the want of a block is not refused
abbrev pub IsClosedChoice : Choice → Path → Type 0
IsClosedChoice (use_block B) b = Closed (Entries B b) b
IsClosedChoice list_store b = Unit {0}
IsClosedChoice refuse b = ⊥

-- A group at one path is opened from one store as a node and as a hierarchy, by a listing or by a closed block. What
-- the node prints and
-- what the hierarchy prints from that path on agree behind their first lines, which are `/` and the path.
abbrev pub PrintingAgrees : Type 0
PrintingAgrees =
    (s : Contents) (v : MetadataRetrieveVersion) (policy : UseConsolidatedMetadata) (b : Path) (m : NodeMetadata)
    (f : Forest) (h : Pairs) (t u : List ℕ)
    → IsPath b → meaning s v b ≡ node m → IsTrue (is_group m) → IsClosedChoice (choice s policy b m) b
    → ShowsBelow s v policy b m f → t ≡ tree_text m f
    → IsOpened s v policy (path_text b) h → IsTreeOf h b u
    → (below : List ℕ) × (t ≡ codes "/\n" ++ below) × (u ≡ path_text b ++ newline ∷ below)

-- What is shown of a hierarchy in the order of paths is its tree from the root on.
abbrev pub ShownIsTree : Type 0
ShownIsTree = (h : Pairs) → Ascend h → IsTreeOf h [] (shown_text h)
