-- Zarr core specification 3.1, "Hierarchy" and "Node names": what holds of every survey and of every check.
-- <https://zarr-specs.readthedocs.io/en/latest/v3/core/index.html#hierarchy>
-- <https://zarr-specs.readthedocs.io/en/latest/v3/core/index.html#node-names>
use Rattle.std.specs.Prelude.{◌≡◌, ◌≢◌, ◌⊎◌, ◌↔◌, true, false, List, [], map, All, Contains, IsTrue, Some, Ok}
use Rattle.zarrs_store.specs.Contents.{Contents}
use Rattle.zarrs_path.specs.Paths.{Path, IsPath, IsBelow}
use Rattle.zarrs_config.specs.declared.version.MetadataRetrieveVersion.{MetadataRetrieveVersion}
use Rattle.zarrs_config.specs.declared.version.MetadataRetrieveVersion.TheVariants.{Default}
use Rattle.zarrs_config.specs.declared.version.UseConsolidatedMetadata.TheVariants.{Must, Never}
use Rattle.zarrs_meta.specs.Node.{is_group}
use Rattle.zarrs_meta.specs.declared.node.NodeMetadata.{NodeMetadata}
use Rattle.zarrs_block.specs.Block.{Block, Entries}
use Rattle.zarrs_meaning.specs.Meaning.{meaning}
use Rattle.zarrs_meaning.specs.Refusals.{IsInvalidPath}
use Rattle.zarrs_meaning.specs.declared.node_create_error.NodeCreateError.{NodeCreateError}
use Rattle.zarrs_compare.specs.Same.{IsSame}
use Rattle.zarrs_node.specs.CurrentBlocks.{BadAnew, IsFresh, LeadsTo}
use Rattle.zarrs_meaning.specs.Exists.{HasNodeKey}
use Rattle.zarrs_node.specs.Forest.{Forest, pairs, Shows}
use Rattle.zarrs_node.specs.Nodes.{Nodes, HasNothingBad, ShowsBad}
use Rattle.zarrs_node.specs.OpeningNodes.{IsCleanBelow, ShowsBelow}
use Rattle.zarrs_check.specs.BlocksAbove.{AreAboveFindings}
use Rattle.zarrs_check.specs.Checks.{block_read, IsBlockFinding, IsCheckOf}
use Rattle.zarrs_check.specs.Findings.{HasPath}
use Rattle.zarrs_meaning.specs.Meaning.{Pair}
use Rattle.zarrs_check.specs.Surveys.{IsSurveyOf}
use Rattle.zarrs_check.specs.declared.base.Base.TheVariants.{Node}
use Rattle.zarrs_check.specs.declared.check.Check.{Check}
use Rattle.zarrs_check.specs.declared.finding.Finding.{Finding}
use Rattle.zarrs_check.specs.declared.finding.FindingKind.TheVariants.{OwnAttributes}
use Rattle.zarrs_check.specs.declared.survey.Survey.{Survey}

-- A survey has no bad document and no bad name exactly where nothing below its base is bad, so that a listing is
-- refused for nothing there.
abbrev pub NothingBadIsTold : Type 0
NothingBadIsTold = (s : Contents) (v : MetadataRetrieveVersion) (b : Path) (survey : Survey) → IsSurveyOf s v b survey
    → ((survey.bad_documents ≡ []) × (survey.bad_names.items ≡ [])) ↔ HasNothingBad s v true b

-- What refuses a listing below the base stands in the survey.
abbrev pub RefusalsAreTold : Type 0
RefusalsAreTold = (s : Contents) (v : MetadataRetrieveVersion) (b : Path) (survey : Survey) → IsSurveyOf s v b survey
    → (e : NodeCreateError) → ShowsBad s v true b e
    → (p : Path) × (Contains survey.bad_documents (p, e) ⊎ (Contains survey.bad_names.items p × IsInvalidPath p e))

-- A listing below the base shows the nodes of the survey.
abbrev pub ListingIsSurveyed : Type 0
ListingIsSurveyed = (s : Contents) (v : MetadataRetrieveVersion) (b : Path) (survey : Survey) → IsSurveyOf s v b survey
    → (f : Forest) → Shows f b (Nodes s v true b) → pairs f ≡ survey.nodes.items

-- The nodes below a group of the survey are those of the survey that are below it.
abbrev pub GroupsAreSurveyed : Type 0
GroupsAreSurveyed = (s : Contents) (v : MetadataRetrieveVersion) (b : Path) (survey : Survey) → IsSurveyOf s v b survey
    → (g : Path) (m : NodeMetadata) → Contains survey.nodes.items (g, m) → IsTrue (is_group m)
    → (e : Pair) → Nodes s v true g e ↔ (Contains survey.nodes.items e × IsBelow g e.0)

-- the paths of a forest, parents before children
abbrev pub paths_of : Forest → List Path
paths_of f = map (λ e. e.0) (pairs f)

-- E and N have the same paths, and at each the same metadata, nested blocks apart
pub record HaveSameNodes (E N : Pair → Type 0) : Type 0 where
  pub paths : (p : Path) → HasPath E p ↔ HasPath N p
  pub metadata : (p : Path) (m n : NodeMetadata) → E (p, m) → N (p, n) → IsSame m n

-- Where a survey has nothing bad, and its base has a block of which nothing is to be told, other attributes of the
-- base itself apart, neither opening the base by the block nor by a listing is refused, and what they show below it
-- has the same paths with the same metadata.
abbrev pub GoodBlocksAgree : Type 0
GoodBlocksAgree =
    (s : Contents) (v : MetadataRetrieveVersion) (b : Path) (survey : Survey) → IsSurveyOf s v b survey
    → survey.bad_documents ≡ [] → survey.bad_names.items ≡ [] → (m : NodeMetadata) (B : Block) → survey.base ≡ Node m
    → block_read s b m ≡ Some (Ok B) → ((f : Finding) → IsBlockFinding s v b f → f.group ≡ b → f.kind ≡ OwnAttributes)
    → IsCleanBelow s v Must b m × IsCleanBelow s v Never b m
    × ((f g : Forest) → ShowsBelow s v Must b m f → ShowsBelow s v Never b m g
    → (paths_of f ≡ paths_of g) × HaveSameNodes (Contains (pairs f)) (Contains (pairs g)))

-- Under the same conditions the entries of the block have the paths of the nodes below the base with the same metadata.
abbrev pub GoodEntriesAreNodes : Type 0
GoodEntriesAreNodes =
    (s : Contents) (v : MetadataRetrieveVersion) (b : Path) (survey : Survey) → IsSurveyOf s v b survey
    → survey.bad_documents ≡ [] → survey.bad_names.items ≡ [] → (m : NodeMetadata) (B : Block) → survey.base ≡ Node m
    → block_read s b m ≡ Some (Ok B) → ((f : Finding) → IsBlockFinding s v b f → f.group ≡ b → f.kind ≡ OwnAttributes)
    → HaveSameNodes (Entries B b) (Nodes s v true b)

-- Under the same conditions making the block current at any path below the base is refused for nothing, and the block
-- then has the same paths as before with the same metadata, nested blocks apart.
abbrev pub RefreshedBlocksAgree : Type 0
RefreshedBlocksAgree =
    (s : Contents) (v : MetadataRetrieveVersion) (b : Path) (survey : Survey) → IsSurveyOf s v b survey
    → survey.bad_documents ≡ [] → survey.bad_names.items ≡ [] → (m : NodeMetadata) (B : Block) → survey.base ≡ Node m
    → block_read s b m ≡ Some (Ok B) → ((f : Finding) → IsBlockFinding s v b f → f.group ≡ b → f.kind ≡ OwnAttributes)
    → (p : Path) → IsPath p → IsBelow b p
    → (LeadsTo B b p → BadAnew s v p → ⊥)
    × ((C : Block) → IsFresh (meaning s v) b B p C → HaveSameNodes (Entries B b) (Entries C b))

-- a node below b is an array, and p is below it
abbrev pub IsBelowArrayNode : Contents → MetadataRetrieveVersion → Path → Path → Type 0
IsBelowArrayNode s v b p = (e : Pair) × Nodes s v true b e × (is_group e.1 ≡ false) × IsBelow e.0 p

-- p is a node below b, or it is among the bad documents of the check, or the version does not ask for all documents,
-- and p is among its ignored paths
abbrev pub IsFoundBy : Contents → MetadataRetrieveVersion → Path → Check → Path → Type 0
IsFoundBy s v b c p =
    ((m : NodeMetadata) × Nodes s v true b (p, m)) ⊎ ((e : NodeCreateError) × Contains c.bad_documents (p, e))
    ⊎ ((v ≢ Default) × Contains c.ignored.items p)

-- Where a check has no orphans, and nothing is hidden below its bad documents, each path below the base that has a
-- document of a node is found,
-- unless it is below an array.
abbrev pub NothingIsLost : Type 0
NothingIsLost =
    (s : Contents) (v : MetadataRetrieveVersion) (b : Path) (c : Check) → IsCheckOf s v b c → c.orphans.items ≡ []
    → All (λ n. n ≡ 0) c.hidden.items
    → (p : Path) → IsPath p → IsBelow b p → HasNodeKey s p → (IsBelowArrayNode s v b p → ⊥) → IsFoundBy s v b c p

-- No group is above the root, so no block above it says anything otherwise.
abbrev pub NothingIsAboveRoot : Type 0
NothingIsAboveRoot = (s : Contents) (v : MetadataRetrieveVersion) → AreAboveFindings s v [] []
