-- A version 3 group that was stored with the block of a listing opens by that block as by a listing.
use Rattle.std.proofs.Common.{◌≡◌, ◌≤◌, inl, inr, ⊎_elim, Bool, true, false, List, [], ◌∷◌, ◌++◌, length, codes, Option, Some, None, Result, Ok, Err, refl, sym, ap, subst, ◌∙◌, arith, length-append}
use Rattle.serde_json.specs.Data.{Members, depth, put}
use Rattle.serde_json.specs.Read.{max_depth}
use Rattle.zarrs_store.specs.Contents.{Contents}
use Rattle.zarrs_store.specs.declared.storage_error.StorageError.{StorageError}
use Rattle.zarrs_store.specs.declared.storage_error.StorageError.TheVariants as storage
use Rattle.zarrs_path.specs.Keys.{zarr_json}
use Rattle.zarrs_path.specs.Paths.{Path, IsPath}
use Rattle.zarrs_config.specs.declared.version.MetadataConvertVersion.{MetadataConvertVersion}
use Rattle.zarrs_config.specs.declared.version.MetadataConvertVersion.TheVariants as convert
use Rattle.zarrs_config.specs.declared.version.MetadataRetrieveVersion.{MetadataRetrieveVersion}
use Rattle.zarrs_config.specs.declared.version.MetadataRetrieveVersion.TheVariants as retrieve
use Rattle.zarrs_config.specs.declared.version.UseConsolidatedMetadata.{UseConsolidatedMetadata}
use Rattle.zarrs_config.specs.declared.version.UseConsolidatedMetadata.TheVariants.{Auto, Must, Never}
use Rattle.zarrs_meta.specs.declared.group_v3.GroupMetadataV3.{GroupMetadataV3}
use Rattle.zarrs_meta.specs.declared.node.GroupMetadata.{GroupMetadata}
use Rattle.zarrs_meta.specs.declared.node.GroupMetadata.TheVariants.{V3}
use Rattle.zarrs_meta.specs.declared.node.NodeMetadata.TheVariants.{Group}
use Rattle.zarrs_form.specs.Fields.{field_data}
use Rattle.zarrs_block.specs.Block.{Block, Entries, HasValidKeys, block_of_in, documents, inline_block}
use Rattle.zarrs_meaning.specs.Meaning.{meaning, node, nothing}
use Rattle.zarrs_block.specs.Policy.{use_block, list_store, group_block, block_to_use}
use Rattle.zarrs_block.specs.Zmetadata.{HaveSameEntries}
use Rattle.zarrs_meaning.specs.declared.node_create_error.NodeCreateError.{NodeCreateError}
use Rattle.zarrs_node.specs.BlocksBelow.{block_at}
use Rattle.zarrs_node.specs.Forest.{Forest, pairs, Shows}
use Rattle.zarrs_node.specs.Nodes.{ShowsBad}
use Rattle.zarrs_node.specs.Reach.{Kept}
use Rattle.zarrs_node.specs.ListedBlocks.{IsListedBlock}
use Rattle.zarrs_node.specs.OpeningNodes.{choice, RefusesChosen, ShowsChosen}
use Rattle.zarrs_node.specs.OpeningNodes as opened
use Rattle.zarrs_node.proofs.KeptPairs.{kept_same}
use Rattle.zarrs_node.proofs.blocks.ListedBlocks.{listed_keys, shown_alike}
use Rattle.zarrs_node.proofs.ListedItems.{listed_each, lists_from}
use Rattle.zarrs_group.specs.Edits.{AgreesOutsideKey, Edit, set, after, edit_key, IsCutShort}
use Rattle.zarrs_group.specs.Groups.{group_tree, metadata_by_version}
use Rattle.zarrs_group.specs.Meaning.{MeansGroup, group_v3_line, group_line, group_meaning}
use Rattle.zarrs_group.specs.BlocksOfGroups.{fields_with, metadata_with}
use Rattle.zarrs_group.specs.Laws.{MeansStored}
use Rattle.zarrs_meta.specs.GroupV3.{group_v3_tree}
use Rattle.zarrs_group.specs.StoredTexts.{pretty_text}
use Rattle.zarrs_group.specs.StoredBlocks.{OpensAlike, EditKeepsOthers, StoringKeepsOthers, MeansVersion3, ListedBlockOpens}
use Rattle.zarrs_group.specs.StoringGroups.{IsStoringCutShort, KeyChange, StoresDocuments, store_edits, RefusesStoring}
use Rattle.zarrs_group.proofs.BlockFields.{field_reads, set_reads}
use Rattle.zarrs_group.proofs.GivesBack.{means_node, no_bad_key, opens_clean}
use Rattle.zarrs_group.proofs.KeyChanges.{key_of, one_edit}
use Rattle.zarrs_group.proofs.ListedReads.{listed_reads}
use Rattle.zarrs_group.proofs.OtherKeys.{edited_elsewhere}

-- an edit leaves every other key as it was, and the numbers
pub edit_keeps_others : EditKeepsOthers
edit_keeps_others S e = edited_elsewhere S e

-- so does a single edit that was cut short
cut_keeps_others : (S T : Contents) (e : Edit) → IsCutShort S (e ∷ []) T → AgreesOutsideKey (edit_key e) S T
cut_keeps_others S T e cut = by cut.done cut.is cut.others
  where
    by : (done : List Edit) → e ∷ [] ≡ done ++ cut.next ∷ cut.rest → AgreesOutsideKey (edit_key cut.next) (after S done) T → AgreesOutsideKey (edit_key e) S T
    by [] is others = subst (λ x. AgreesOutsideKey (edit_key x) S T) (sym (first is)) others
      where
        first : e ∷ [] ≡ cut.next ∷ cut.rest → e ≡ cut.next
        first is = cc
    by (d ∷ done) is others = let long = ap length is in let more = length-append done (cut.next ∷ cut.rest) in absurd (omega (arith, long, more))

-- the metadata of version 3 are written as they are, by whatever version
written_as_is : (v : MetadataConvertVersion) (m : GroupMetadataV3) → metadata_by_version v (V3 m) ≡ V3 m
written_as_is convert.Default m = refl
written_as_is convert.V3 m = refl

module _ (S T : Contents) (p : Path) (m : GroupMetadataV3) (block : Option Block) where
  -- storing a version 3 group in whole numbers changes its document alone
  stored_keeps : AgreesOutsideKey (p ++ zarr_json ∷ []) S (after S (store_edits p (V3 m) block))
  stored_keeps = edit_keeps_others S (set (p ++ zarr_json ∷ []) (pretty_text (group_v3_tree m)))

  -- the change that stores it
  abbrev change : KeyChange
  change = (p ++ zarr_json ∷ [], Some (group_v3_tree m))

  -- so does storing it in any
  stores_keep : StoresDocuments p (V3 m) block S T → AgreesOutsideKey (p ++ zarr_json ∷ []) S T
  stores_keep (es, are, is) =
      let w = one_edit change es are in
      subst (λ k. AgreesOutsideKey k S T) (key_of (p ++ zarr_json ∷ []) (Some (group_v3_tree m)) w.0 w.2)
      (subst (AgreesOutsideKey (edit_key w.0) S) (sym (is ∙ ap (after S) w.1)) (edit_keeps_others S w.0))

  -- also where it was cut short
  cut_keeps : IsStoringCutShort p (V3 m) block S T → AgreesOutsideKey (p ++ zarr_json ∷ []) S T
  cut_keeps cut =
      let w = one_edit change cut.edits cut.are in
      subst (λ k. AgreesOutsideKey k S T) (key_of (p ++ zarr_json ∷ []) (Some (group_v3_tree m)) w.0 w.2)
      (cut_keeps_others S T w.0 (subst (λ es. IsCutShort S es T) w.1 cut.cut))

  -- and where nothing was done
  unchanged_keeps : T ≡ S → AgreesOutsideKey (p ++ zarr_json ∷ []) S T
  unchanged_keeps same = subst (AgreesOutsideKey (p ++ zarr_json ∷ []) S) (sym same) (refl, λ other not. refl)

  -- so it does where it is refused
  refused_keeps : (can_fail : Bool) (e : StorageError) → RefusesStoring can_fail p (V3 m) block S T e → AgreesOutsideKey (p ++ zarr_json ∷ []) S T
  refused_keeps can_fail storage.Fault h = cut_keeps h.1
  refused_keeps can_fail (storage.InvalidMetadata key fault) h = unchanged_keeps h.0
  refused_keeps can_fail (storage.Other text) h = absurd h
  refused_keeps can_fail storage.OutOfMemory h = ⊎_elim unchanged_keeps cut_keeps h

-- so does storing a group whose metadata are of version 3
pub storing_keeps_others : StoringKeepsOthers
storing_keeps_others S T v g m is =
    let same : metadata_by_version v g.metadata ≡ V3 m = ap (metadata_by_version v) is ∙ written_as_is v m in (
      subst (λ x. AgreesOutsideKey (g.path ++ zarr_json ∷ []) S (after S (store_edits g.path x g.block))) (sym same) (stored_keeps S T g.path m g.block),
      λ h. stores_keep S T g.path m g.block (subst (λ x. StoresDocuments g.path x g.block S T) same h),
      λ can_fail e h. refused_keeps S T g.path m g.block can_fail e (subst (λ x. RefusesStoring can_fail g.path x g.block S T e) same h),
    )

-- what the line of version 3 says is a group of version 3
line_is_v3 : (r : Result (Option GroupMetadataV3) StorageError) (m : GroupMetadata) → group_v3_line r nothing ≡ node (Group m) → (k : GroupMetadataV3) × (m ≡ V3 k)
line_is_v3 (Ok None) m e = cc
line_is_v3 (Ok (Some k)) m e = (k, cc)
line_is_v3 (Err why) m e = cc

-- what a path means as a group of version 3 is one
pub means_version_3 : MeansVersion3
unfolding group_meaning group_line
means_version_3 S p m e = line_is_v3 _ m e

-- a group that a path means, whose block has the entries of the listed block and valid keys
module _ (S : Contents) (v : MetadataRetrieveVersion) (p : Path) (m : GroupMetadata) (B C : Block) (valid : IsPath p) (listed : IsListedBlock S v p B)
    (means : meaning S v p ≡ node (Group m)) (held : block_at S p (Group m) ≡ Some C) (keys : HasValidKeys C) (same : HaveSameEntries B C) where
  -- under Must the block is used
  must : choice S Must p (Group m) ≡ use_block C
  must = ap (λ o. block_to_use o Must) held

  -- under Never it is not
  never : choice S Never p (Group m) ≡ list_store
  never = ap (λ o. block_to_use o Never) held

  -- nothing below the group is refused
  clean : (policy : UseConsolidatedMetadata) (e : NodeCreateError) → opened.RefusesBelow S v policy p (Group m) e → ⊥
  clean Auto e h = no_bad_key C keys e (subst (λ c. RefusesChosen S v c true p e) (ap (λ o. block_to_use o Auto) held) h)
  clean Must e h = no_bad_key C keys e (subst (λ c. RefusesChosen S v c true p e) must h)
  clean Never e h =
      let shows : ShowsBad S v true p e = subst (λ c. RefusesChosen S v c true p e) never h in
      listed.clean (⊎_elim (λ w. inl (e, w)) (λ w. inr (w.0, w.1)) shows)

  -- a forest that shows the kept entries of the one block shows those of the other
  of_listed : (f : Forest) → Shows f p (Kept (Entries C p) true p) → Shows f p (Kept (Entries B p) true p)
  of_listed f shows =
      let kept = kept_same (Entries C p) (Entries B p) true p (λ e low. same p e) in
      record {
        shown = lists_from (pairs f) (λ e. (λ in'. (kept e).0 ((listed_each shows.shown e).0 in'), λ h. (listed_each shows.shown e).1 ((kept e).1 h))) shows.shown.each_once;
        placed = shows.placed;
      }

  -- the group opens alike by the block and by a listing
  pub opens_alike : OpensAlike S v p m
  opens_alike = record {
    means = means;
    children = λ f g one two. shown_alike S v p B listed f g (of_listed f (subst (λ c. ShowsChosen S v c true p f) must one)) (subst (λ c. ShowsChosen S v c true p g) never two);
    opened = λ policy. opens_clean S v policy p valid (Group m) means (clean policy);
  }

-- the metadata of a version 3 group with a block of these documents as its field
abbrev pub with_field : Members → GroupMetadataV3 → GroupMetadataV3
with_field D m = record { attributes = m.attributes; additional_fields = put (codes "consolidated_metadata") (field_data (inline_block D) false) m.additional_fields }

-- a version 3 group that a path means, with documents that read as its listed block, opens alike by it and by a listing
pub opens_with_field : (S : Contents) (v : MetadataRetrieveVersion) (p : Path) (m : GroupMetadataV3) (D : Members) (B : Block) → IsPath p → IsListedBlock S v p B → block_of_in S.numbers (inline_block D) ≡ Ok B
    → meaning S v p ≡ node (Group (V3 (with_field D m))) → OpensAlike S v p (V3 (with_field D m))
opens_with_field S v p m D B valid listed reads means =
    opens_alike S v p (V3 (with_field D m)) B B valid listed means (field_reads S.numbers D B m.additional_fields reads) (listed_keys S v p B listed) (λ b e. (λ h. h, λ h. h))

-- so does a group that was stored with the listed block
pub listed_block_opens : ListedBlockOpens
listed_block_opens S v w g m B not valid is listed stored shallow =
    let k : GroupMetadataV3 = record { attributes = m.attributes; additional_fields = fields_with (Some B) m.additional_fields } in
    let same : metadata_with (Some B) g.metadata ≡ V3 k = ap (metadata_with (Some B)) is in
    let held : block_at S g.path (Group (V3 k)) ≡ Some B = set_reads S.numbers B m.additional_fields (listed_reads S v g.path B listed) in
    let both : depth (group_tree (V3 k)) ≤ max_depth → MeansGroup S retrieve.Default g.path (V3 k) × MeansGroup S retrieve.V3 g.path (V3 k) =
    subst (MeansStored S g.path) (ap (metadata_by_version w) same ∙ written_as_is w k) stored in
    let means : meaning S v g.path ≡ node (Group (V3 k)) = means_node S S g.path k refl (both (subst (λ x. depth (group_tree x) ≤ max_depth) same shallow)).1 refl v not in
    (ap (group_block S.numbers) same ∙ held, subst (OpensAlike S v g.path) (sym same) (opens_with_field S v g.path m (documents B) B valid listed (listed_reads S v g.path B listed) means))
