-- A group whose document with the listed block was written, with any numbers, opens by that block as by a listing.
use Rattle.std.proofs.Common.{◌≡◌, ◌≢◌, ℕ, List, [], ◌∷◌, ◌++◌, Option, Some, Ok, IsTrue, true, true≢false, refl, sym, subst, ◌∙◌}
use Rattle.std.specs.Prelude.{All}
use Rattle.std.specs.FinMap as map
use Rattle.std.proofs.lemmas.List.Elements.{All-contains, All-cons, All-nil}
use Rattle.serde_json.specs.Data.{Data, Members}
use Rattle.zarrs_store.specs.Segments.{Segments}
use Rattle.zarrs_store.specs.Contents.{Contents, with_key}
use Rattle.zarrs_store.proofs.ContentsLemmas.{get_inserted, AgreesExceptAt-insert}
use Rattle.zarrs_path.specs.Keys.{zarr_json, zarray, zgroup, zattrs, zmetadata}
use Rattle.zarrs_path.specs.Paths.{Path, IsPath}
use Rattle.zarrs_config.specs.declared.version.MetadataRetrieveVersion.{MetadataRetrieveVersion}
use Rattle.zarrs_config.specs.declared.version.MetadataRetrieveVersion.TheVariants as retrieve
use Rattle.zarrs_form.specs.Documents.{json_of}
use Rattle.zarrs_form.specs.DocumentTexts.{IsTextOf}
use Rattle.zarrs_group.specs.AsciiTexts.{IsAsciiTextOf}
use Rattle.zarrs_form.proofs.MemberLaws.{differ}
use Rattle.zarrs_meta.specs.GroupV3.{group_v3_in, group_v3_tree, is_plain_group_v3_in}
use Rattle.zarrs_meta.specs.declared.group_v2.GroupMetadataV2.{GroupMetadataV2}
use Rattle.zarrs_meta.specs.declared.group_v3.GroupMetadataV3.{GroupMetadataV3}
use Rattle.zarrs_meta.specs.declared.node.GroupMetadata.{GroupMetadata}
use Rattle.zarrs_meta.specs.declared.node.GroupMetadata.TheVariants.{V3, V2}
use Rattle.zarrs_meta.specs.declared.node.NodeMetadata.TheVariants.{Group}
use Rattle.zarrs_meta.proofs.GroupV3Laws.{group_v3_again_in}
use Rattle.zarrs_block.specs.Block.{Block, HasValidKeys, block_of_in, documents, inline_block}
use Rattle.zarrs_meaning.specs.DocumentsAtKeys.{in_bytes, document_at}
use Rattle.zarrs_meaning.specs.Meaning.{meaning, node}
use Rattle.zarrs_block.specs.Zmetadata.{zmetadata_tree, HasPlainEntriesIn}
use Rattle.zarrs_block.proofs.ZmetadataAgain.{written_reads_back_in}
use Rattle.zarrs_node.specs.BlocksBelow.{zmetadata_at}
use Rattle.zarrs_node.specs.Changes.{document_files}
use Rattle.zarrs_node.specs.ListedBlocks.{IsListedBlock}
use Rattle.zarrs_node.specs.Nodes.{Nodes}
use Rattle.zarrs_node.proofs.blocks.Current.{meaning_same}
use Rattle.zarrs_node.proofs.Inverse.{entries_are}
use Rattle.zarrs_meaning.proofs.PlainMeanings.{plain_node_in}
use Rattle.zarrs_group.specs.BlockDocuments.{IsDocumentText, document_with_block}
use Rattle.zarrs_group.specs.BlocksBeside.{IsBeside}
use Rattle.zarrs_group.specs.BlocksOfGroups.{Fits, beside_with, metadata_with}
use Rattle.zarrs_group.specs.FullBlocks.{full_documents, metadata_with_full}
use Rattle.zarrs_group.specs.Meaning.{MeansGroup, group_line, group_meaning}
use Rattle.zarrs_group.specs.StoredBlocks.{FullBlockOpens, OpensAlike, WrittenBlockOpens}
use Rattle.zarrs_group.proofs.BelowBases.{listed_stays}
use Rattle.zarrs_group.proofs.Beside.{beside_read, means_v2}
use Rattle.zarrs_group.proofs.EraseLaws.{keys_differ, json_metadata, group_metadata, attrs_metadata}
use Rattle.zarrs_group.proofs.GivesBack.{means_node}
use Rattle.zarrs_group.proofs.ListedReads.{full_listed_reads, listed_reads}
use Rattle.zarrs_group.proofs.PlainWithBlock.{plain_with_block}
use Rattle.zarrs_group.proofs.StoredAgain.{block_read}
use Rattle.zarrs_group.proofs.StoredBlocks.{opens_alike, opens_with_field, with_field}

-- ---- of version 3

-- a path that means a group of version 3 is not read as version 2
not_version_2 : (S : Contents) (p : Path) (m : GroupMetadataV3) (v : MetadataRetrieveVersion) → meaning S v p ≡ node (Group (V3 m)) → v ≢ retrieve.V2
not_version_2 S p m v means is =
    true≢false (sym (means_v2 (in_bytes S.numbers) S.values p (Group (V3 m)) (subst (λ x. meaning S x p ≡ node (Group (V3 m))) is means)))

-- bytes that are read as what is written of a group, plain in the numbers of the store, mean the group at its key
written_means : (S : Contents) (p : Path) (m : GroupMetadataV3) (bytes : List ℕ) → IsTrue (is_plain_group_v3_in S.numbers m) → json_of bytes ≡ Some (group_v3_tree m)
    → MeansGroup (with_key S (p ++ zarr_json ∷ []) bytes) retrieve.V3 p (V3 m)
unfolding group_meaning group_line document_at
written_means S p m bytes plain read =
    let here : map.get (map.insert S.values (p ++ zarr_json ∷ []) bytes) (p ++ zarr_json ∷ []) ≡ Some bytes = get_inserted S.values (p ++ zarr_json ∷ []) bytes in
    let again : group_v3_in S.numbers (group_v3_tree m) ≡ Ok m = group_v3_again_in S.numbers m plain in
    rw (here, read, again) refl

-- a version 3 group whose document was written, with documents that read as the listed block, opens alike by it and by a listing
field_opens : (S : Contents) (v : MetadataRetrieveVersion) (p : Path) (m : GroupMetadataV3) (D : Members) (B : Block) (bytes : List ℕ) → IsPath p → meaning S v p ≡ node (Group (V3 m)) → IsListedBlock S v p B
    → block_of_in S.numbers (inline_block D) ≡ Ok B → IsTextOf bytes (group_v3_tree (with_field D m)) → OpensAlike (with_key S (p ++ zarr_json ∷ []) bytes) v p (V3 (with_field D m))
field_opens S v p m D B bytes valid means listed reads text =
    let k : GroupMetadataV3 = with_field D m in
    let T : Contents = with_key S (p ++ zarr_json ∷ []) bytes in
    let plain : IsTrue (is_plain_group_v3_in S.numbers k) = plain_with_block S.numbers D B reads m (plain_node_in S p v (Group (V3 m)) means) in
    let after : meaning T v p ≡ node (Group (V3 k)) = means_node T T p k refl (written_means S p k bytes plain text.reads) refl v (not_version_2 S p m v means) in
    opens_with_field T v p m D B valid (listed_stays S v p zarr_json bytes B listed) reads after

-- ---- of version 2

-- `.zmetadata` is none of the documents that a meaning reads
all_apart : All (λ file. file ≢ zmetadata) document_files
all_apart =
    All-cons (λ file. file ≢ zmetadata) zarr_json (zarray ∷ zgroup ∷ zattrs ∷ []) json_metadata
    (All-cons (λ file. file ≢ zmetadata) zarray (zgroup ∷ zattrs ∷ []) (differ zarray zmetadata refl)
    (All-cons (λ file. file ≢ zmetadata) zgroup (zattrs ∷ []) group_metadata
    (All-cons (λ file. file ≢ zmetadata) zattrs [] attrs_metadata (All-nil (λ file. file ≢ zmetadata)))))

-- so a path means what it meant where its `.zmetadata` is written
same_beside : (S : Contents) (v : MetadataRetrieveVersion) (p : Path) (bytes : List ℕ) → meaning (with_key S (p ++ zmetadata ∷ []) bytes) v p ≡ meaning S v p
same_beside S v p bytes = meaning_same S (with_key S (p ++ zmetadata ∷ []) bytes) p refl
    (λ file in'. AgreesExceptAt-insert S.values (p ++ zmetadata ∷ []) bytes (p ++ file ∷ [])
    (keys_differ p file zmetadata (All-contains (λ f. f ≢ zmetadata) document_files file all_apart in'))) v

-- the entries of a listed block could have come from documents that may hold the numbers of the store
listed_entries_plain : (S : Contents) (v : MetadataRetrieveVersion) (p : Path) (B : Block) → IsListedBlock S v p B → HasPlainEntriesIn S.numbers B
listed_entries_plain S v p B listed e (n, ns, names, is, at) =
    let kept : Nodes S v true p (p ++ n ∷ ns, e.1) = (entries_are (Nodes S v true p) p B (λ d k. k.0.below) listed.exact (p ++ n ∷ ns, e.1)).0 (n, ns, names, refl, at) in
    plain_node_in S (p ++ n ∷ ns) v e.1 kept.1

-- a version 2 group whose `.zmetadata` with the listed block was written opens alike by it and by a listing
beside_opens : (S : Contents) (v : MetadataRetrieveVersion) (p : Path) (m : GroupMetadataV2) (B : Block) (bytes : List ℕ) → IsPath p → meaning S v p ≡ node (Group (V2 m)) → IsListedBlock S v p B
    → IsBeside (Some B) → IsAsciiTextOf bytes (zmetadata_tree m B) → OpensAlike (with_key S (p ++ zmetadata ∷ []) bytes) v p (V2 m)
beside_opens S v p m B bytes valid means listed fits text =
    let T : Contents = with_key S (p ++ zmetadata ∷ []) bytes in
    let again = written_reads_back_in S.numbers m B (plain_node_in S p v (Group (V2 m)) means) listed.ascending fits.0 fits.1 (listed_entries_plain S v p B listed) in
    let held : zmetadata_at T p ≡ Some again.0 =
    block_read T p bytes (zmetadata_tree m B) again.0 (get_inserted S.values (p ++ zmetadata ∷ []) bytes) text.reads again.1 in
    let keys : HasValidKeys again.0 = (subst IsBeside held (beside_read T p (V2 m))).0 in
    opens_alike T v p (V2 m) B again.0 valid (listed_stays S v p zmetadata bytes B listed) (same_beside S v p bytes ∙ means) held keys again.2

-- ---- of either version

-- what holds of a key and a tree that there are holds of them by another name
told : (P : Segments × Data → Type 0) (e f : Segments × Data) → Some e ≡ Some f → P e → P f
told P e f is h = let same : e ≡ f = cc in subst P same h

-- by the metadata of the group
opens_by : (S : Contents) (v : MetadataRetrieveVersion) (p : Path) (m : GroupMetadata) (old : Option Block) (B : Block) (key : Segments) (bytes : List ℕ) (d : Data) → IsPath p → meaning S v p ≡ node (Group m)
    → IsListedBlock S v p B → Fits m (Some B) → document_with_block p (metadata_with (Some B) m) (beside_with (Some B) m old) ≡ Some (key, d) → IsDocumentText (metadata_with (Some B) m) bytes d → OpensAlike (with_key S key bytes) v p (metadata_with (Some B) m)
opens_by S v p (V3 m) old B key bytes d valid means listed fits is text =
    let k : GroupMetadataV3 = with_field (documents B) m in
    told (λ e. IsTextOf bytes e.1 → OpensAlike (with_key S e.0 bytes) v p (V3 k)) (p ++ zarr_json ∷ [], group_v3_tree k) (key, d) is
    (field_opens S v p m (documents B) B bytes valid means listed (listed_reads S v p B listed)) text
opens_by S v p (V2 m) old B key bytes d valid means listed fits is text =
    told (λ e. IsAsciiTextOf bytes e.1 → OpensAlike (with_key S e.0 bytes) v p (V2 m)) (p ++ zmetadata ∷ [], zmetadata_tree m B) (key, d) is (beside_opens S v p m B bytes valid means listed fits) text

-- a group of either version opens by the block that was written as by a listing
pub written_block_opens : WrittenBlockOpens
written_block_opens S v g B key bytes valid means listed fits made = opens_by S v g.path g.metadata g.block B key bytes made.0 valid means listed fits made.1 made.2

-- by the metadata of the group, with the block in full
full_opens_by : (S : Contents) (v : MetadataRetrieveVersion) (p : Path) (m : GroupMetadata) (old : Option Block) (B : Block) (key : Segments) (bytes : List ℕ) (d : Data) → IsPath p → meaning S v p ≡ node (Group m)
    → IsListedBlock S v p B → Fits m (Some B) → document_with_block p (metadata_with_full (Some B) m) (beside_with (Some B) m old) ≡ Some (key, d) → IsDocumentText (metadata_with_full (Some B) m) bytes d
    → OpensAlike (with_key S key bytes) v p (metadata_with_full (Some B) m)
full_opens_by S v p (V3 m) old B key bytes d valid means listed fits is text =
    let k : GroupMetadataV3 = with_field (full_documents B) m in
    told (λ e. IsTextOf bytes e.1 → OpensAlike (with_key S e.0 bytes) v p (V3 k)) (p ++ zarr_json ∷ [], group_v3_tree k) (key, d) is
    (field_opens S v p m (full_documents B) B bytes valid means listed (full_listed_reads S v p B listed)) text
full_opens_by S v p (V2 m) old B key bytes d valid means listed fits is text = opens_by S v p (V2 m) old B key bytes d valid means listed fits is text

-- so does a group of either version by a block that was written in full
pub full_block_opens : FullBlockOpens
full_block_opens S v g B key bytes valid means listed fits made = full_opens_by S v g.path g.metadata g.block B key bytes made.0 valid means listed fits made.1 made.2
