-- What a change of a store leaves as it was, and what a stored group opens to.
use Rattle.std.proofs.Common.{◌≡◌, ◌≤◌, ℕ, Bool, List, [], ◌∷◌, ◌++◌, Option, Some, None, refl, sym, ap, subst, ◌∙◌, arith}
use Rattle.serde_json.specs.Data.{depth}
use Rattle.serde_json.specs.Read.{max_depth}
use Rattle.zarrs_store.specs.Segments.{Segments}
use Rattle.zarrs_store.specs.Contents.{Contents}
use Rattle.zarrs_store.specs.declared.storage_error.StorageError.{StorageError}
use Rattle.zarrs_path.specs.Paths.{Path, IsPath}
use Rattle.zarrs_path.specs.Keys.{zarr_json}
use Rattle.zarrs_config.specs.declared.version.MetadataRetrieveVersion.TheVariants as retrieve
use Rattle.zarrs_meta.specs.declared.group_v3.GroupMetadataV3.{GroupMetadataV3}
use Rattle.zarrs_meta.specs.declared.node.GroupMetadata.{GroupMetadata}
use Rattle.zarrs_meta.specs.declared.node.GroupMetadata.TheVariants.{V3}
use Rattle.zarrs_block.specs.Block.{Block}
use Rattle.zarrs_meaning.specs.declared.node_create_error.NodeCreateError.{NodeCreateError}
use Rattle.zarrs_meaning.specs.declared.node_create_error.NodeCreateError.TheVariants.{OutOfMemory}
use Rattle.zarrs_node.specs.Changes.{AgreesOutside}
use Rattle.zarrs_node.specs.ListedBlocks.{IsListedBlock}
use Rattle.zarrs_group.specs.BlocksOfGroups.{RefusesBlock, metadata_with, with_block}
use Rattle.zarrs_group.specs.Edits.{AgreesOutsideKey, after_edit, set, remove}
use Rattle.zarrs_group.specs.Groups.{GroupState, group_tree, metadata_by_version}
use Rattle.zarrs_group.specs.Laws.{MeansStored}
use Rattle.zarrs_group.specs.Meaning.{MeansGroup}
use Rattle.zarrs_group.specs.StoredBlocks.{EditKeepsOthers, StoringKeepsOthers, MeansVersion3, ListedBlockOpens, OpensAlike}
use Rattle.zarrs_group.specs.StoringGroups.{StoresGroup, RefusesStoringGroup}
use Rattle.zarrs_examples.specs.Catalogues.{IsCurrent, IsGroupWithBlock, IsStored, edit_at}
use Rattle.zarrs_examples.specs.declared.catalogue.Catalogue.{Catalogue}

-- the document `zarr.json` of a path is one of its documents
pub outside : (S T : Contents) (p : Path) → AgreesOutsideKey (p ++ zarr_json ∷ []) S T → AgreesOutside p S T
outside S T p others = (others.0, λ key not. others.1 key (λ is. not (zarr_json, (0, omega arith, refl), is)))

-- an edit at a key leaves every other as it was
pub edited : EditKeepsOthers → (S : Contents) (key : Segments) (bytes : Option (List ℕ)) → AgreesOutsideKey key S (after_edit S (edit_at key bytes))
edited keeps S key (Some bytes) = keeps S (set key bytes)
edited keeps S key None = keeps S (remove key)

-- a group as version 3 refuses a block as out of memory alone
pub no_memory : MeansVersion3 → (S : Contents) (p : Path) (m : GroupMetadata) (block : Option Block) (e : NodeCreateError) → MeansGroup S retrieve.V3 p m → RefusesBlock m block e → e ≡ OutOfMemory
no_memory is_v3 S p m block e means refused = let v3 = is_v3 S p m means in subst (λ x. RefusesBlock x block e) v3.1 refused

module _ (is_v3 : MeansVersion3) (S T : Contents) (c : Catalogue) (h : GroupState) (found : IsGroupWithBlock S c h) where
  -- the group is of version 3
  v3 : (k : GroupMetadataV3) × (found.group.metadata ≡ V3 k)
  v3 = is_v3 S c.path found.group.metadata found.means

  -- so is the group with the block, which stands at the path
  metadata_is : (k : GroupMetadataV3) × (h.metadata ≡ V3 k)
  metadata_is = (_, ap (λ (x : GroupState). x.metadata) found.set ∙ ap (metadata_with (Some c.block)) v3.1)

  -- the group with the block stands at the path of the catalogue
  at : h.path ≡ c.path
  at = ap (λ (x : GroupState). x.path) found.set ∙ found.path

  -- storing it changes its document alone
  pub others_stored : StoringKeepsOthers → StoresGroup h.convert_version h S T → AgreesOutsideKey (c.path ++ zarr_json ∷ []) S T
  others_stored keeps stores = subst (λ p. AgreesOutsideKey (p ++ zarr_json ∷ []) S T) at ((keeps S T h.convert_version h metadata_is.0 metadata_is.1).1 stores)

  -- also where it is refused
  pub others_refused : StoringKeepsOthers → (can_fail : Bool) (e : StorageError) → RefusesStoringGroup can_fail h.convert_version h S T e → AgreesOutsideKey (c.path ++ zarr_json ∷ []) S T
  others_refused keeps can_fail e refused = subst (λ p. AgreesOutsideKey (p ++ zarr_json ∷ []) S T) at ((keeps S T h.convert_version h metadata_is.0 metadata_is.1).2 can_fail e refused)

  -- where it was stored, and nests not too deep, the catalogue is stored
  pub is_stored : ListedBlockOpens → IsCurrent T c → MeansStored T h.path (metadata_by_version h.convert_version h.metadata) → depth (group_tree h.metadata) ≤ max_depth → IsStored T c
  is_stored opens current means shallow =
      let g = found.group in
      let w = h.convert_version in
      let stored = subst (λ (x : GroupState). MeansStored T x.path (metadata_by_version w x.metadata)) found.set means in
      let low = subst (λ (x : GroupState). depth (group_tree x.metadata) ≤ max_depth) found.set shallow in
      let listed = subst (λ p. IsListedBlock T retrieve.V3 p c.block) (sym found.path) current in
      let both = opens T retrieve.V3 w g v3.0 c.block (λ e. cc) (subst IsPath (sym found.path) found.valid) v3.1 listed stored low in
      record {
        group = (with_block g (Some c.block)).metadata;
        holds = both.0;
        alike = subst (λ p. OpensAlike T retrieve.V3 p (with_block g (Some c.block)).metadata) found.path both.1;
      }
