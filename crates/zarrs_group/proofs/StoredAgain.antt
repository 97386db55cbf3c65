-- A version 2 group that was stored with its block, opened again, gives the forest of the block back.
use Rattle.std.proofs.Common.{◌≡◌, ◌≢◌, ℕ, ◌↔◌, true, List, [], ◌∷◌, ◌++◌, Some, None, Ok, IsTrue, codes, refl, sym, ap, subst, ◌∙◌, Contains}
use Rattle.std.specs.FinMap as map
use Rattle.std.specs.List.{list_all, list_any}
use Rattle.std.proofs.lemmas.List.Elements.{All-contains}
use Rattle.std.proofs.lemmas.List.Sums.{AllPass-from_list_all}
use Rattle.serde_json.specs.Data.{Data}
use Rattle.zarrs_store.specs.Contents.{Contents}
use Rattle.zarrs_fault.specs.declared.fault.MetadataFault.TheVariants.{UnsupportedNumber, BadMember}
use Rattle.zarrs_path.specs.Keys.{zmetadata}
use Rattle.zarrs_path.specs.Paths.{Path, IsPath}
use Rattle.zarrs_config.specs.declared.version.MetadataRetrieveVersion.{MetadataRetrieveVersion}
use Rattle.zarrs_config.specs.declared.version.UseConsolidatedMetadata.{UseConsolidatedMetadata}
use Rattle.zarrs_config.specs.declared.version.UseConsolidatedMetadata.TheVariants.{Never}
use Rattle.zarrs_form.specs.Documents.{json_of}
use Rattle.zarrs_meta.specs.Node.{is_plain_node_in}
use Rattle.zarrs_meta.specs.declared.group_v2.GroupMetadataV2.{GroupMetadataV2}
use Rattle.zarrs_meta.specs.declared.node.GroupMetadata.{GroupMetadata}
use Rattle.zarrs_meta.specs.declared.node.GroupMetadata.TheVariants.{V2}
use Rattle.zarrs_meta.specs.declared.node.NodeMetadata.{NodeMetadata}
use Rattle.zarrs_meta.specs.declared.node.NodeMetadata.TheVariants.{Group}
use Rattle.zarrs_block.specs.Block.{Block, Entries, HasValidKeys, IsAscending}
use Rattle.zarrs_meaning.specs.Meaning.{Meaning}
use Rattle.zarrs_block.specs.Policy.{use_block, block_to_use}
use Rattle.zarrs_block.specs.Zmetadata.{zmetadata_in, zmetadata_tree, HasPlainEntriesIn, HaveSameEntries}
use Rattle.zarrs_meaning.specs.declared.node_create_error.NodeCreateError.{NodeCreateError}
use Rattle.zarrs_block.proofs.Expansion.{entries_listed}
use Rattle.zarrs_block.proofs.ZmetadataAgain.{written_reads_back_in}
use Rattle.zarrs_node.specs.BlocksBelow.{zmetadata_at}
use Rattle.zarrs_node.specs.Forest.{Forest, Shows, pairs}
use Rattle.zarrs_node.specs.Reach.{Kept}
use Rattle.zarrs_node.specs.OpeningNodes.{ShowsChosen, RefusesChosen, ShowsBelow}
use Rattle.zarrs_node.specs.OpeningNodes as opened
use Rattle.zarrs_group.specs.BlocksBeside.{IsBeside}
use Rattle.zarrs_group.specs.BlocksOfGroups.{held_in, with_block}
use Rattle.zarrs_group.specs.Groups.{GroupState}
use Rattle.zarrs_group.specs.Plain.{node_exceeds, entries_of, block_fault_in}
use Rattle.zarrs_group.specs.GivesBack.{ConsolidatesV2, GivesBack, HasStoredBlock, OpensToV2, StoredV2GivesBack}
use Rattle.zarrs_group.proofs.Beside.{beside_read}
use Rattle.zarrs_group.proofs.BlockPlain.{all_plain}
use Rattle.zarrs_group.proofs.GivesBack.{used_there, no_bad_key, gives_back, opens_clean, same_pairs, keys_valid, entries_v2, one_is}
use Rattle.zarrs_group.proofs.PlainLaws.{plain_v2}
use Rattle.zarrs_group.proofs.StoreLemmas.{own_plain, beside_plain}
use Rattle.zarrs_fault.specs.declared.numbers.Numbers.{Numbers}

-- ---- the document that is stored

-- bytes that are read as the document of a block are that block
pub block_read : (s : Contents) (p : Path) (bytes : List ℕ) (d : Data) (C : Block) → map.get s.values (p ++ zmetadata ∷ []) ≡ Some bytes → json_of bytes ≡ Some d → zmetadata_in s.numbers d ≡ Ok C → zmetadata_at s p ≡ Some C
block_read s p bytes d C here read is = rw (here, read, is) refl

-- the entries of a block without a fault in some numbers are plain in them
entries_plain : (numbers : Numbers) (B : Block) → IsAscending B → HasValidKeys B → block_fault_in numbers B ≡ None → HasPlainEntriesIn numbers B
entries_plain numbers B up valid none e here =
    let all : list_all (λ d. is_plain_node_in numbers d.1) (entries_of B) ≡ true =
    all_plain (list_any (λ d. node_exceeds numbers d.1) (entries_of B)) (list_all (λ d. is_plain_node_in numbers d.1) (entries_of B)) UnsupportedNumber (BadMember (codes "metadata")) none in
    All-contains (λ d. IsTrue (is_plain_node_in numbers d.1)) (entries_of B) e (AllPass-from_list_all (λ d. is_plain_node_in numbers d.1) (entries_of B) all) ((entries_listed [] B up valid).complete e here)

-- ---- the group that is opened

module _ (of : Path → Meaning) (g : GroupState) (f : Forest) (B : Block) (from : ConsolidatesV2 of g f B) (named : IsPath g.path) where
  -- the group with these metadata
  abbrev grouped : GroupMetadata → GroupState
  grouped m = with_block (record { path = g.path; metadata = m; block = g.block; convert_version = g.convert_version; erase_version = g.erase_version }) (Some B)

  -- over a store that has beside it a block with the entries of B
  module _ (s : Contents) (m : GroupMetadataV2) (C : Block) (there : zmetadata_at s g.path ≡ Some C) (same : HaveSameEntries B C) where
    -- its entries are the pairs
    pairs_again : (e : Path × NodeMetadata) → Entries C g.path e ↔ Contains (pairs f) e
    pairs_again e = (λ h. (same_pairs of g f B from e).0 ((same g.path e).0 h), λ h. (same g.path e).1 ((same_pairs of g f B from e).1 h))

    -- its keys are valid
    valid_again : HasValidKeys C
    valid_again = (subst IsBeside there (beside_read s g.path (V2 m))).0

    -- it is the block that is used
    is_used : (policy : UseConsolidatedMetadata) → policy ≢ Never → block_to_use (zmetadata_at s g.path) policy ≡ use_block C
    is_used policy not = ap (λ h. block_to_use h policy) there ∙ used_there C policy not

    -- what is shown is the forest
    shown_again : (v : MetadataRetrieveVersion) (policy : UseConsolidatedMetadata) → policy ≢ Never → (t : Forest) → ShowsBelow s v policy g.path (Group (V2 m)) t → t ≡ f
    shown_again v policy not t shows = one_is of g f B from (Entries C g.path) pairs_again t (subst (λ c. ShowsChosen s v c true g.path t) (is_used policy not) shows)

    -- and nothing refuses it
    clean_again : (v : MetadataRetrieveVersion) (policy : UseConsolidatedMetadata) → policy ≢ Never → (e : NodeCreateError) → opened.RefusesBelow s v policy g.path (Group (V2 m)) e → ⊥
    clean_again v policy not e refused = no_bad_key C valid_again e (subst (λ c. RefusesChosen s v c true g.path e) (is_used policy not) refused)

    -- a group that is opened there holds it, and gives the forest back
    group_again : (h : GroupState) → h.path ≡ g.path → h.metadata ≡ V2 m → h.block ≡ zmetadata_at s g.path → GivesBack h f
    group_again h path metadata beside =
        gives_back h f C valid_again (subst (λ p. (e : Path × NodeMetadata) → Entries C p e ↔ Contains (pairs f) e) (sym path) pairs_again)
        (subst (λ p. (t : Forest) → Shows t p (Kept (Entries C p) true p) → t ≡ f) (sym path) (λ t shows. one_is of g f B from (Entries C g.path) pairs_again t shows))
        (λ numbers. ap (λ k. held_in numbers k h.block) metadata ∙ beside ∙ there)

    -- so the group gives the forest back
    opens_again : OpensToV2 s (grouped (V2 m)) f B
    opens_again = record {
      children = λ v means policy not t shows. shown_again v policy not t shows;
      opened = λ v means policy not. opens_clean s v policy g.path named (Group (V2 m)) means (clean_again v policy not);
      beside = (C, there, same);
      group = λ h path metadata beside. group_again h path metadata beside;
    }

  -- storing leaves such a block
  stored_again : (S s : Contents) (m : GroupMetadataV2) → IsAscending B → HasStoredBlock S s (grouped (V2 m)) → OpensToV2 s (grouped (V2 m)) f B
  stored_again S s m up stored =
      let valid : HasValidKeys B = keys_valid of g f B from in
      let own = own_plain s.numbers g.path (V2 m) (Some B) stored.plain in
      let plain : HasPlainEntriesIn s.numbers B = entries_plain s.numbers B up valid (beside_plain s.numbers g.path (V2 m) (Some B) stored.plain) in
      let again = written_reads_back_in s.numbers m B (plain_v2 s.numbers m own) up valid (entries_v2 of g f B from) plain in
      let read = stored.reads stored.shallow in
      opens_again s m again.0 (block_read s g.path read.0 (zmetadata_tree m B) again.0 (stored.same ∙ read.1) read.2 again.1) again.2

-- a node opened over the document of a stored version 2 group gives the forest back
pub stored_v2_gives_back : StoredV2GivesBack
stored_v2_gives_back of g f B from up named S s =
    subst (λ m. HasStoredBlock S s (grouped of g f B from named m) → OpensToV2 s (grouped of g f B from named m) f B) (sym from.version_2.1) (stored_again of g f B from named S s from.version_2.0 up)
