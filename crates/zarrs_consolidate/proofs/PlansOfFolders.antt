-- A plan over what was loaded of a store is a plan over the store.
use Rattle.std.proofs.Common.{◌≡◌, inl, inr, ⊎_elim, false, refl, sym, ◌∙◌, Option}
use Rattle.std.specs.Prelude.{Contains, Result, Ok, Err, IfOk, IfErr}
use Rattle.zarrs_store.specs.Contents.{Contents, Values}
use Rattle.zarrs_path.specs.Paths.{Path}
use Rattle.zarrs_config.specs.declared.version.MetadataRetrieveVersion.TheVariants.{Default}
use Rattle.zarrs_config.specs.declared.version.UseConsolidatedMetadata.TheVariants.{Never}
use Rattle.zarrs_meta.specs.declared.node.GroupMetadata.{GroupMetadata}
use Rattle.zarrs_meta.specs.declared.node.GroupMetadata.TheVariants.{V3, V2}
use Rattle.zarrs_meta.specs.declared.node.NodeMetadata.TheVariants.{Group}
use Rattle.zarrs_block.specs.Block.{Block}
use Rattle.zarrs_meaning.specs.Meaning.{meaning, node}
use Rattle.zarrs_node.specs.ListedBlocks.{IsListedBlock}
use Rattle.zarrs_folder.specs.Folders.{in_any}
use Rattle.zarrs_folder.specs.Openings.{ListSame, OpenSame}
use Rattle.zarrs_folder.specs.declared.documents.Documents.TheVariants.{Deciding}
use Rattle.zarrs_folder.specs.PrunedStores.{IsLoadedFrom, node_files}
use Rattle.zarrs_folder.proofs.DecidingDocuments.{has_zarr_json, has_zmetadata}
use Rattle.zarrs_folder.proofs.Openings.{listed_block_is_same, loaded_opens_same, opened_answer_same}
use Rattle.zarrs_group.specs.BlocksOfGroups.{RefusesBlock}
use Rattle.zarrs_consolidate.specs.Plans.{IsPlan, block_file, group_holding}
use Rattle.zarrs_consolidate.specs.Refusals.{HasDeepDocument, HoldsOfGroup, RefusesPlan, RefusesPlanOfEach, RefusesPlanOfSome}
use Rattle.zarrs_consolidate.specs.declared.fault.ConsolidateError.{ConsolidateError}
use Rattle.zarrs_consolidate.specs.declared.fault.ConsolidateError.TheVariants.{Folder, Node, NotAGroup, TooDeep}
use Rattle.zarrs_consolidate.specs.declared.fault.ConsolidateError.TheVariants.{Block as NoBlock, OutOfMemory}
use Rattle.zarrs_consolidate.specs.declared.plan.Plan.{Plan}
use Rattle.zarrs_consolidate.specs.declared.plan.Task.{Task}

-- the document of the block is one of the files of a node
file_of_node : (m : GroupMetadata) → Contains node_files (block_file m)
file_of_node (V3 m) = has_zarr_json
file_of_node (V2 m) = has_zmetadata

module _ (S L : Contents) (b : Path) (loaded : IsLoadedFrom Deciding S L b) where
  -- both open the same at b
  same : OpenSame S L Never b
  same = loaded_opens_same Deciding S L b loaded Never

  -- below a group both list the same
  lists : (m : GroupMetadata) → meaning S Default b ≡ node (Group m) → ListSame S L b
  lists m means = same.listed m means refl

  -- what b means in the one it means in the other
  means : (m : GroupMetadata) → meaning L Default b ≡ node (Group m) → meaning S Default b ≡ node (Group m)
  means m is = sym same.means ∙ is

  -- the listed block of the one is that of the other
  listed : (m : GroupMetadata) (B : Block) → meaning L Default b ≡ node (Group m) → IsListedBlock L Default b B → IsListedBlock S Default b B
  listed m B is h = (listed_block_is_same S L b B (lists m (means m is))).0 h

  -- a plan over the one is a plan over the other
  pub plan_over : (task : Task) (plan : Plan) → IsPlan L task b plan → IsPlan S task b plan
  plan_over task plan h = record {
    group = h.group;
    block = h.block;
    means = means h.group h.means;
    listed = listed h.group h.block h.means h.listed;
    key = h.key;
    name = h.name;
    nodes = h.nodes;
    old = h.old ∙ loaded.base.documents (block_file h.group) (file_of_node h.group);
    new = h.new;
  }

  -- what holds of the group and its block there holds of them here
  of_group : (task : Task) (P : GroupMetadata → Option Block → Type 0) → HoldsOfGroup L task b P → HoldsOfGroup S task b P
  of_group task P (m, B, is, h, holds) = (m, B, means m is, listed m B is h, holds)

  -- what refuses a plan over the one refuses it over the other
  pub refused_over : (task : Task) (e : ConsolidateError) → RefusesPlan false L task b e → RefusesPlan false S task b e
  refused_over task (Folder fault) h = h
  refused_over task (Node e) h = ⊎_elim inl (λ r. inr (⊎_elim
      (λ w. inl (((opened_answer_same S L Never b same).refused_node e).0 w))
      (λ w. inr (w.0, means w.0 w.1, ((lists w.0 (means w.0 w.1)).refusals e).0 w.2)) r)) h
  refused_over task (NotAGroup path) h = ((h.0.0, sym same.means ∙ h.0.1, h.0.2), h.1)
  refused_over task (NoBlock e) h = of_group task (λ m block. RefusesBlock m block e) h
  refused_over task TooDeep h = of_group task (λ m block. HasDeepDocument (group_holding b m block)) h
  refused_over task OutOfMemory h = h

-- a plan over what was loaded is one over some store
pub planned_of_some : (task : Task) (b : Path) (L : Values) (r : Result Plan ConsolidateError) → IfOk r (IsPlan (in_any L) task b) → IfOk r (λ plan. (V : Values) × IsPlan (in_any V) task b plan)
planned_of_some task b L (Ok plan) h = (L, h)
planned_of_some task b L (Err e) h = tt

-- what refuses it refuses it over some store
pub refused_of_some : (task : Task) (b : Path) (L : Values) (r : Result Plan ConsolidateError) → IfErr r (RefusesPlan false (in_any L) task b) → IfErr r (RefusesPlanOfSome task b)
refused_of_some task b L (Ok plan) h = tt
refused_of_some task b L (Err e) h = inr (L, h)

-- a plan over what was loaded is one over each store from which it was
pub planned_of_each : (task : Task) (b : Path) (L : Values) (P : Values → Type 0) (r : Result Plan ConsolidateError) → ((V : Values) → P V → IsLoadedFrom Deciding (in_any V) (in_any L) b)
    → IfOk r (IsPlan (in_any L) task b) → IfOk r (λ plan. (V : Values) → P V → IsPlan (in_any V) task b plan)
planned_of_each task b L P (Ok plan) loaded h = λ V p. plan_over (in_any V) (in_any L) b (loaded V p) task plan h
planned_of_each task b L P (Err e) loaded h = tt

-- what refuses it refuses it over each
pub refused_of_each : (task : Task) (b : Path) (L : Values) (P : Values → Type 0) (r : Result Plan ConsolidateError) → ((V : Values) → P V → IsLoadedFrom Deciding (in_any V) (in_any L) b)
    → IfErr r (RefusesPlan false (in_any L) task b) → IfErr r (RefusesPlanOfEach P task b)
refused_of_each task b L P (Ok plan) loaded h = tt
refused_of_each task b L P (Err e) loaded h = inr (λ V p. refused_over (in_any V) (in_any L) b (loaded V p) task e h)
