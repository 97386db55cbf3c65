-- Zarr core specification 3.1, "Hierarchy", "Node names" and "Metadata documents": what a survey of a store finds.
-- <https://zarr-specs.readthedocs.io/en/latest/v3/core/index.html#hierarchy>
-- <https://zarr-specs.readthedocs.io/en/latest/v3/core/index.html#node-names>
use Rattle.std.specs.Prelude.{◌≡◌, ◌⊎◌, true, Contains}
use Rattle.zarrs_store.specs.Contents.{Contents, HasBelow, Lists}
use Rattle.zarrs_path.specs.Paths.{Path}
use Rattle.zarrs_config.specs.declared.version.MetadataRetrieveVersion.{MetadataRetrieveVersion}
use Rattle.zarrs_meaning.specs.Meaning.{meaning, node, bad}
use Rattle.zarrs_meaning.specs.declared.node_create_error.NodeCreateError.{NodeCreateError}
use Rattle.zarrs_node.specs.Faults.{PathsAscend}
use Rattle.zarrs_node.specs.Nodes.{MeansNode, IsBadName, Nodes, Ignored}
use Rattle.zarrs_node.specs.OpeningNodes.{RefusesNode}
use Rattle.zarrs_node.specs.Order.{Ascend}
use Rattle.zarrs_node.specs.Reach.{HasGroup, Reached}
use Rattle.zarrs_check.specs.declared.base.Base.{Base}
use Rattle.zarrs_check.specs.declared.base.Base.TheVariants.{Node, Refused}
use Rattle.zarrs_check.specs.declared.survey.Survey.{Survey}
use Rattle.zarrs_meaning.specs.Meaning.{Pair}

-- the base means a node with these metadata, or it is refused with this error: it means nothing, or is bad
abbrev pub IsBase : Contents → MetadataRetrieveVersion → Path → Base → Type 0
IsBase s v b (Node m) = meaning s v b ≡ node m
IsBase s v b (Refused e) = RefusesNode s v b e

-- a reached path means `bad e`
abbrev pub BadDocuments : Contents → MetadataRetrieveVersion → Path → Path × NodeCreateError → Type 0
BadDocuments s v b d = Reached (MeansNode s v) true b d.0 × (meaning s v d.0 ≡ bad d.1)

-- a child of a listed path has a name of periods only
abbrev pub BadNames : Contents → MetadataRetrieveVersion → Path → Path → Type 0
BadNames s v b p = IsBadName (meaning s v) (HasBelow s.values) true b p

-- the survey has exactly what the store has at b and below it: the base, the nodes in the order of paths, the ignored
-- paths, the bad documents and the bad names
pub record IsSurveyOf (s : Contents) (v : MetadataRetrieveVersion) (b : Path) (survey : Survey) : Type 0 where
  pub path : survey.path ≡ b
  pub base : IsBase s v b survey.base
  pub nodes : Lists (Nodes s v true b) survey.nodes.items
  pub nodes_ascend : Ascend survey.nodes.items
  pub ignored : Lists (Ignored s v true b) survey.ignored.items
  pub ignored_ascend : PathsAscend survey.ignored.items
  pub bad_documents : Lists (BadDocuments s v b) survey.bad_documents
  pub bad_names : Lists (BadNames s v b) survey.bad_names.items
  pub bad_names_ascend : PathsAscend survey.bad_names.items

-- e is the base of the survey with its metadata
abbrev pub IsBaseOf : Survey → Pair → Type 0
IsBaseOf survey e = (survey.path ≡ e.0) × (survey.base ≡ Node e.1)

-- e is the base of the survey with its metadata, or one of the nodes below it
abbrev pub IsNodeOf : Survey → Pair → Type 0
IsNodeOf survey e = IsBaseOf survey e ⊎ Contains survey.nodes.items e

-- the survey has a group at g: its base, or one of the nodes below it
abbrev pub HasGroupAt : Survey → Path → Type 0
HasGroupAt survey g = HasGroup (IsNodeOf survey) g
