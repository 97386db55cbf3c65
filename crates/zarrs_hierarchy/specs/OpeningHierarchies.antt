-- Zarr core specification 3.1, "Hierarchy" and "Group metadata", with zarr-python's field `consolidated_metadata`: what
-- an opened hierarchy has.
-- <https://zarr-specs.readthedocs.io/en/latest/v3/core/index.html#hierarchy>
-- <https://zarr-specs.readthedocs.io/en/latest/v3/core/index.html#group-metadata>
-- <https://zarr.readthedocs.io/en/stable/user-guide/consolidated_metadata/>
use Rattle.std.specs.Prelude.{◌≡◌, ℕ, true, List}
use Rattle.zarrs_store.specs.Contents.{Contents, Lists}
use Rattle.zarrs_path.specs.Paths.{Path, IsPath, path_text}
use Rattle.zarrs_meta.specs.declared.node.NodeMetadata.{NodeMetadata}
use Rattle.zarrs_meta.specs.declared.node.NodeMetadata.TheVariants.{Group, Array}
use Rattle.zarrs_config.specs.declared.version.MetadataRetrieveVersion.{MetadataRetrieveVersion}
use Rattle.zarrs_config.specs.declared.version.UseConsolidatedMetadata.{UseConsolidatedMetadata}
use Rattle.zarrs_block.specs.Block.{Entries}
use Rattle.zarrs_block.specs.Policy.{Choice, use_block, list_store, refuse}
use Rattle.zarrs_meaning.specs.Meaning.{meaning, node}
use Rattle.zarrs_node.specs.Nodes.{Nodes}
use Rattle.zarrs_node.specs.OpeningNodes.{choice, IsCleanBelow, PassesOver}
use Rattle.zarrs_hierarchy.specs.PairsOfHierarchies.{Pairs, Holds, WithBase}
use Rattle.zarrs_hierarchy.specs.Tree.{IsTreeOf}
use Rattle.zarrs_meaning.specs.Meaning.{Pair}

-- the pairs below b: all entries of the block that is used, or the nodes that a listing finds; none where the want of
-- a block is refused
abbrev pub PairsChosen : Contents → MetadataRetrieveVersion → Choice → Path → Pair → Type 0
PairsChosen s v (use_block B) b e = Entries B b e
PairsChosen s v list_store b e = Nodes s v true b e
PairsChosen s v refuse b e = ⊥

-- below an array there is nothing; below a group stand the pairs of the choice that is made for it
abbrev pub PairsOf : Contents → MetadataRetrieveVersion → UseConsolidatedMetadata → Path → NodeMetadata → Pair → Type 0
PairsOf s v policy b (Array a) e = ⊥
PairsOf s v policy b (Group g) e = PairsChosen s v (choice s policy b (Group g)) b e

-- the text is that of a path, which means a node; the hierarchy has that node and what stands below it, and nothing
-- there is refused
pub record IsOpened (s : Contents) (v : MetadataRetrieveVersion) (policy : UseConsolidatedMetadata) (text : List ℕ)
    (h : Pairs) : Type 0 where
  pub base : Path
  pub valid : IsPath base
  pub path : path_text base ≡ text
  pub metadata : NodeMetadata
  pub means : meaning s v base ≡ node metadata
  pub holds : Holds h (WithBase base metadata (PairsOf s v policy base metadata))
  pub clean : IsCleanBelow s v policy base metadata

-- the text is the tree, from b on, of the hierarchy that opening at b finds
abbrev pub IsOpenedTree : Contents → MetadataRetrieveVersion → UseConsolidatedMetadata → Path → List ℕ → Type 0
IsOpenedTree s v policy b text = (h : Pairs) × IsOpened s v policy (path_text b) h × IsTreeOf h b text

-- the paths that an opening at b passes over, where b has these metadata: below an array none, below a group those of
-- the choice that is made for it
abbrev pub PassedBelow : Contents → MetadataRetrieveVersion → UseConsolidatedMetadata → Path → NodeMetadata → Path
    → Type 0
PassedBelow s v policy b (Array a) p = ⊥
PassedBelow s v policy b (Group g) p = PassesOver s v (choice s policy b (Group g)) b p

-- the path b means a node, and the list has exactly the paths that an opening at b passes over, each once
abbrev pub ListsPassed : Contents → MetadataRetrieveVersion → UseConsolidatedMetadata → Path → List Path → Type 0
ListsPassed s v policy b ps = (m : NodeMetadata) × (meaning s v b ≡ node m) × Lists (PassedBelow s v policy b m) ps
