-- From the document of a group with its block to the plan, and from its refusal to that of the plan.
use Rattle.std.proofs.Common.{◌≡◌, ◌<◌, Bool, true≢false, Option, Some, None, refl, subst, sym}
use Rattle.std.specs.Prelude.{Result, Err, IfErr, IfSome, IsTrue, is_some}
use Rattle.serde_json.specs.Data.{Data, depth}
use Rattle.serde_json.specs.Read.{max_depth}
use Rattle.zarrs_store.specs.Contents.{Contents}
use Rattle.zarrs_store.specs.Segments.{Segments}
use Rattle.zarrs_path.specs.Paths.{Path}
use Rattle.zarrs_config.specs.Settings.{default_settings}
use Rattle.zarrs_config.specs.declared.version.MetadataRetrieveVersion.TheVariants.{Default}
use Rattle.zarrs_meta.specs.declared.node.GroupMetadata.{GroupMetadata}
use Rattle.zarrs_meta.specs.declared.node.NodeMetadata.TheVariants.{Group}
use Rattle.zarrs_block.specs.Block.{Block}
use Rattle.zarrs_meaning.specs.Meaning.{meaning, node}
use Rattle.zarrs_node.specs.ListedBlocks.{IsListedBlock}
use Rattle.zarrs_group.specs.BlockDocuments.{HasNoBlockDocument, block_document}
use Rattle.zarrs_group.specs.Children.{group_at}
use Rattle.zarrs_group.specs.FullBlocks.{with_full_block}
use Rattle.zarrs_group.specs.Groups.{GroupState}
use Rattle.zarrs_consolidate.specs.Plans.{group_holding}
use Rattle.zarrs_consolidate.specs.Refusals.{HasDeepDocument, RefusesPlan, block_set}
use Rattle.zarrs_consolidate.specs.StepsOfPlans.{HasBlockDocument, RefusesDocument}
use Rattle.zarrs_consolidate.specs.declared.fault.ConsolidateError.{ConsolidateError}
use Rattle.zarrs_consolidate.specs.declared.fault.ConsolidateError.TheVariants.{Folder, Node, NotAGroup, TooDeep}
use Rattle.zarrs_consolidate.specs.declared.fault.ConsolidateError.TheVariants.{Block as NoBlock, OutOfMemory}
use Rattle.zarrs_consolidate.specs.declared.plan.Task.{Task}

-- where the document that is there, if one is, nests too deep, and one is there, it nests too deep
is_deep : (found : Option (Segments × Data)) → IsTrue (is_some found) → IfSome found (λ e. max_depth < depth e.1)
    → (key : Segments) × (d : Data) × (found ≡ Some (key, d)) × (max_depth < depth d)
is_deep (Some (key, d)) there deep = (key, d, refl, deep)
is_deep None there deep = absurd (true≢false (sym there))

-- the group has a document that nests too deep
pub deep_document : (b : Path) (m : GroupMetadata) (block : Option Block) (g : GroupState) → HasBlockDocument b m block → g ≡ group_at default_settings b m → HasNoBlockDocument (with_full_block g block)
    → HasDeepDocument (group_holding b m block)
deep_document b m block g there is none =
    is_deep (block_document (group_holding b m block)) there (subst (λ x. HasNoBlockDocument (with_full_block x block)) is none)

module _ (can_fail : Bool) (s : Contents) (task : Task) (b : Path) (m : GroupMetadata) (B : Block) (means : meaning s Default b ≡ node (Group m)) (listed : IsListedBlock s Default b B) where
  -- what refuses the document of the group refuses the plan
  refused : (e : ConsolidateError) → RefusesDocument b m (block_set task B) e → RefusesPlan can_fail s task b e
  refused (NoBlock e) h = (m, B, means, listed, h)
  refused TooDeep h = (m, B, means, listed, h)
  refused OutOfMemory h = tt
  refused (Folder fault) h = absurd h
  refused (Node e) h = absurd h
  refused (NotAGroup path) h = absurd h

  -- and so does the result that has it
  pub document_refused : {A : Type 0} (r : Result A ConsolidateError) (e : ConsolidateError) → r ≡ Err e → RefusesDocument b m (block_set task B) e → IfErr r (RefusesPlan can_fail s task b)
  document_refused r e is h = subst (λ x. IfErr x (RefusesPlan can_fail s task b)) (sym is) (refused e h)
