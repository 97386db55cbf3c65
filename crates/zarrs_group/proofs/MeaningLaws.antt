-- What is stored means what was stored.
use Rattle.std.proofs.Common.{◌≡◌, ◌≤◌, ℕ, true, false, List, [], ◌∷◌, ◌++◌, Option, Some, None, Ok, IsTrue, refl, sym, ap, ◌∙◌, subst}
use Rattle.std.specs.FinMap as map
use Rattle.serde_json.specs.Data.{Data, object, Members, no_members, member, depth}
use Rattle.serde_json.specs.Read.{max_depth}
use Rattle.serde_json.specs.Written.{members_have_float}
use Rattle.zarrs_store.specs.Segments.{Segments}
use Rattle.zarrs_store.specs.Contents.{Contents, with_key, without_key}
use Rattle.zarrs_store.proofs.ContentsLemmas.{get_inserted, get_removed, AgreesExceptAt-insert}
use Rattle.zarrs_path.specs.Keys.{zarr_json, zgroup, zattrs, zmetadata}
use Rattle.zarrs_path.specs.Paths.{Path}
use Rattle.zarrs_fault.specs.declared.numbers.Numbers.{Numbers}
use Rattle.zarrs_fault.specs.declared.numbers.Numbers.TheVariants.{Whole, Any}
use Rattle.zarrs_form.specs.Documents.{document_in, json_of, is_empty}
use Rattle.zarrs_form.specs.Forms.{fits_in, unless}
use Rattle.zarrs_form.proofs.AttributeLaws.{not_true}
use Rattle.zarrs_group.specs.StoredTexts.{pretty_text}
use Rattle.zarrs_meta.specs.GroupV3.{group_v3_in, group_v3_tree, is_plain_group_v3_in}
use Rattle.zarrs_meta.specs.GroupV2.{group_v2_tree, is_plain_group_v2_in}
use Rattle.zarrs_group.specs.Plain.{group_fault_in}
use Rattle.zarrs_meta.specs.declared.node.GroupMetadata.{GroupMetadata}
use Rattle.zarrs_meta.specs.declared.node.GroupMetadata.TheVariants.{V3, V2}
use Rattle.zarrs_meta.specs.declared.group_v3.GroupMetadataV3.{GroupMetadataV3}
use Rattle.zarrs_meta.specs.declared.group_v2.GroupMetadataV2.{GroupMetadataV2}
use Rattle.zarrs_group.proofs.PlainLaws.{plain_v3, plain_v2, plain_without, no_fault_more}
use Rattle.zarrs_meta.proofs.GroupV3Laws.{group_v3_again_in, group_v3_no_float}
use Rattle.zarrs_meta.proofs.GroupV2Laws.{group_v2_again_in, plain_group_v2_in}
use Rattle.zarrs_group.specs.Edits.{Edit, set, remove, after, after_edit}
use Rattle.zarrs_meta.specs.declared.attributes.AttributesDocument.{AttributesDocument}
use Rattle.zarrs_meta.specs.declared.node.NodeMetadata.TheVariants.{Group}
use Rattle.zarrs_meta.specs.Node.{group_with, group_without_attributes}
use Rattle.zarrs_meta.specs.GroupV2.{group_v2_in}
use Rattle.zarrs_meaning.specs.DocumentsAtKeys.{in_bytes, document_at, attributes_at}
use Rattle.zarrs_meaning.specs.Meaning.{Meaning, node, nothing, version_2_line, zgroup_line}
use Rattle.zarrs_group.specs.Meaning.{group_line, group_meaning}
use Rattle.zarrs_block.specs.Block.{Block}
use Rattle.zarrs_block.specs.Zmetadata.{zmetadata_tree}
use Rattle.zarrs_group.specs.StoringGroups.{AreEditsOf, IsEditAt, IsBlockReadBack, store_changes, store_edits, whole_edit}
use Rattle.zarrs_group.specs.Laws.{MeansStored, StoredMeans, StoredMeansIn}
use Rattle.zarrs_group.proofs.EraseLaws.{keys_differ, group_attrs, group_metadata, attrs_metadata}
use Rattle.zarrs_group.proofs.KeyChanges.{one_edit, three_edits}
use Rattle.zarrs_group.proofs.OtherKeys.{edited_elsewhere}
use Rattle.zarrs_group.proofs.WholeEdits.{IsWhole, own_whole, stored_text_is_exact}

-- ---- edits that read back

-- the edit of a change, whose bytes are read as the tree where it does not nest too deep
abbrev IsReadEdit : Segments → Option Data → Edit → Type 0
IsReadEdit key (Some d) e = (bytes : List ℕ) × (e ≡ set key bytes) × (depth d ≤ max_depth → json_of bytes ≡ Some d)
IsReadEdit key None e = e ≡ remove key

-- so is each edit of a change
read_edit : (key : Segments) (t : Option Data) (e : Edit) → IsEditAt key t e → IsReadEdit key t e
read_edit key (Some d) e (bytes, is, text) = (bytes, is, text.reads)
read_edit key None e is = is

-- where the tree has no fraction, the exact edit at one key is such where some edit of the tree at another is
read_exactly : (key other : Segments) (t : Option Data) (e : Edit) → IsWhole t → IsEditAt other t e → IsReadEdit key t (whole_edit key t)
read_exactly key other (Some d) e whole (bytes, is, text) =
    (pretty_text d, refl, λ shallow. ap json_of (sym (stored_text_is_exact bytes d text whole)) ∙ text.reads shallow)
read_exactly key other None e whole is = refl

-- ---- version 3

-- the line of `zarr.json` over a stored version 3 group
stored_v3 : (S : Contents) (p : Path) (m : GroupMetadataV3) (bytes : List ℕ) (rest : Meaning) → IsTrue (is_plain_group_v3_in S.numbers m) → json_of bytes ≡ Some (group_v3_tree m)
    → group_line (with_key S (p ++ zarr_json ∷ []) bytes) p rest ≡ node (Group (V3 m))
unfolding group_line document_at
stored_v3 S p m bytes rest plain read =
    let here : map.get (map.insert S.values (p ++ zarr_json ∷ []) bytes) (p ++ zarr_json ∷ []) ≡ Some bytes = get_inserted S.values (p ++ zarr_json ∷ []) bytes in
    let again : group_v3_in S.numbers (group_v3_tree m) ≡ Ok m = group_v3_again_in S.numbers m plain in
    rw (here, read, again) refl

-- a version 3 group means itself once it was stored
means_v3 : (S : Contents) (p : Path) (m : GroupMetadataV3) (e : Edit) → IsTrue (is_plain_group_v3_in S.numbers m) → IsReadEdit (p ++ zarr_json ∷ []) (Some (group_v3_tree m)) e → MeansStored (after S (e ∷ [])) p (V3 m)
unfolding group_meaning
means_v3 S p m e plain (bytes, is, reads) =
    let T : Contents = with_key S (p ++ zarr_json ∷ []) bytes in
    subst (λ x. MeansStored (after S (x ∷ [])) p (V3 m)) (sym is)
    (λ shallow. (stored_v3 S p m bytes (zgroup_line (in_bytes T.numbers) T.values p nothing) plain (reads shallow), stored_v3 S p m bytes nothing plain (reads shallow)))

-- ---- version 2

-- the attributes that a reading finds where they were stored: none, or those
stored_attributes : Members → Option AttributesDocument
stored_attributes no_members = None
stored_attributes (member k d ms) = Some (record { 0 = member k d ms })

-- attributes whose numbers are among these are the members of a document
attributes_document : (numbers : Numbers) (ms : Members) → fits_in numbers (object ms) ≡ true → document_in numbers (object ms) ≡ Ok ms
attributes_document Whole ms fits = let none : members_have_float ms ≡ false = not_true (members_have_float ms) fits in rw none refl
attributes_document Any ms fits = refl

-- the attributes that a reading finds after their edit
found_stored : (S : Contents) (p : Path) (a : Members) (e : Edit) → fits_in S.numbers (object a) ≡ true → IsReadEdit (p ++ zattrs ∷ []) (unless (is_empty a) (object a)) e → depth (object a) ≤ max_depth
    → attributes_at (after_edit S e) p ≡ Ok (stored_attributes a)
unfolding document_at stored_attributes
found_stored S p no_members e fits is shallow =
    let gone : map.get (map.remove S.values (p ++ zattrs ∷ [])) (p ++ zattrs ∷ []) ≡ None = get_removed S.values (p ++ zattrs ∷ []) in
    let then' : attributes_at (after_edit S (remove (p ++ zattrs ∷ []))) p ≡ Ok (stored_attributes no_members) = rw gone refl in
    ap (λ x. attributes_at (after_edit S x) p) is ∙ then'
found_stored S p (member k d ms) e fits (bytes, is, reads) shallow =
    let here : map.get (map.insert S.values (p ++ zattrs ∷ []) bytes) (p ++ zattrs ∷ []) ≡ Some bytes = get_inserted S.values (p ++ zattrs ∷ []) bytes in
    let read : json_of bytes ≡ Some (object (member k d ms)) = reads shallow in
    let again : document_in S.numbers (object (member k d ms)) ≡ Ok (member k d ms) = attributes_document S.numbers (member k d ms) fits in
    let then' : attributes_at (after_edit S (set (p ++ zattrs ∷ []) bytes)) p ≡ Ok (stored_attributes (member k d ms)) = rw (here, read, again) refl in
    ap (λ x. attributes_at (after_edit S x) p) is ∙ then'

-- the document without attributes, and the attributes beside it, are the group
whole : (m : GroupMetadataV2) (a : Members) (rest : Meaning) → m.attributes ≡ a
    → version_2_line (λ x. Group (V2 x)) group_with (Ok (Some (group_without_attributes m))) (Ok (stored_attributes a)) rest ≡ node (Group (V2 m))
unfolding stored_attributes
whole m no_members rest is = ap (λ a. node (Group (V2 (record { attributes = a; additional_fields = m.additional_fields })))) (sym is)
whole m (member k d ms) rest is = ap (λ a. node (Group (V2 (record { attributes = a; additional_fields = m.additional_fields })))) (sym is)

-- the line of `.zgroup` over a store with the attributes of a group, once its document was set
stored_beside : (S : Contents) (p : Path) (m : GroupMetadataV2) (bytes : List ℕ) (rest : Meaning) → IsTrue (is_plain_group_v2_in S.numbers (group_without_attributes m))
    → json_of bytes ≡ Some (group_v2_tree (group_without_attributes m)) → attributes_at S p ≡ Ok (stored_attributes m.attributes)
    → zgroup_line (in_bytes S.numbers) (map.insert S.values (p ++ zgroup ∷ []) bytes) p rest ≡ node (Group (V2 m))
unfolding zgroup_line document_at
stored_beside S p m bytes rest plain read found =
    let own : Segments = p ++ zgroup ∷ [] in
    let attributes : Segments = p ++ zattrs ∷ [] in
    let here : map.get (map.insert S.values own bytes) own ≡ Some bytes = get_inserted S.values own bytes in
    let there : map.get (map.insert S.values own bytes) attributes ≡ map.get S.values attributes = AgreesExceptAt-insert S.values own bytes attributes (keys_differ p zattrs zgroup (λ e. group_attrs (sym e))) in
    let again : group_v2_in S.numbers (group_v2_tree (group_without_attributes m)) ≡ Ok (group_without_attributes m) = group_v2_again_in S.numbers (group_without_attributes m) plain in
    rw (here, there, read, again, found) (whole m m.attributes rest refl)

-- the edits of the documents of a version 2 group, whose bytes are read as these
abbrev AreOwnEdits : Path → GroupMetadataV2 → Edit → Edit → Type 0
AreOwnEdits p m a o =
    IsReadEdit (p ++ zattrs ∷ []) (unless (is_empty m.attributes) (object m.attributes)) a × IsReadEdit (p ++ zgroup ∷ []) (Some (group_v2_tree (group_without_attributes m))) o

-- the line of `.zgroup` over the stored documents of a version 2 group
stored_own : (S : Contents) (p : Path) (m : GroupMetadataV2) (a o : Edit) (rest : Meaning) → IsTrue (is_plain_group_v2_in S.numbers m) → AreOwnEdits p m a o → depth (object m.attributes) ≤ max_depth
    → depth (group_v2_tree (group_without_attributes m)) ≤ max_depth
    → zgroup_line (in_bytes (after S (a ∷ o ∷ [])).numbers) (after S (a ∷ o ∷ [])).values p rest ≡ node (Group (V2 m))
stored_own S p m a o rest plain (at, (bytes, is, reads)) shallow shallow' =
    let first : Contents = after_edit S a in
    let bare : IsTrue (is_plain_group_v2_in first.numbers (group_without_attributes m)) =
    subst (λ n. IsTrue (is_plain_group_v2_in n (group_without_attributes m))) (sym (edited_elsewhere S a).0) (plain_without S.numbers m plain) in
    let found : attributes_at first p ≡ Ok (stored_attributes m.attributes) = found_stored S p m.attributes a (plain_group_v2_in S.numbers m plain).0 at shallow in
    subst (λ x. zgroup_line (in_bytes (after S (a ∷ x ∷ [])).numbers) (after S (a ∷ x ∷ [])).values p rest ≡ node (Group (V2 m))) (sym is)
    (stored_beside first p m bytes rest bare (reads shallow') found)

-- another key does not matter to the line of `.zgroup`
line_elsewhere : (S : Contents) (p : Path) (bytes : List ℕ) (rest : Meaning)
    → zgroup_line (in_bytes S.numbers) (map.insert S.values (p ++ zmetadata ∷ []) bytes) p rest ≡ zgroup_line (in_bytes S.numbers) S.values p rest
unfolding zgroup_line document_at
line_elsewhere S p bytes rest =
    let own : map.get (map.insert S.values (p ++ zmetadata ∷ []) bytes) (p ++ zgroup ∷ []) ≡ map.get S.values (p ++ zgroup ∷ []) =
    AgreesExceptAt-insert S.values (p ++ zmetadata ∷ []) bytes (p ++ zgroup ∷ []) (keys_differ p zgroup zmetadata group_metadata) in
    let attributes : map.get (map.insert S.values (p ++ zmetadata ∷ []) bytes) (p ++ zattrs ∷ []) ≡ map.get S.values (p ++ zattrs ∷ []) =
    AgreesExceptAt-insert S.values (p ++ zmetadata ∷ []) bytes (p ++ zattrs ∷ []) (keys_differ p zattrs zmetadata attrs_metadata) in
    rw (own, attributes) refl

-- a version 2 group means itself once it was stored without a block
means_bare : (S : Contents) (p : Path) (m : GroupMetadataV2) (a o : Edit) → IsTrue (is_plain_group_v2_in S.numbers m) → AreOwnEdits p m a o → MeansStored (after S (remove (p ++ zmetadata ∷ []) ∷ a ∷ o ∷ [])) p (V2 m)
unfolding group_meaning
means_bare S p m a o plain own shallow shallow' = stored_own (without_key S (p ++ zmetadata ∷ [])) p m a o nothing plain own shallow shallow'

-- and with a block
means_beside : (S : Contents) (p : Path) (m : GroupMetadataV2) (a o : Edit) (bytes : List ℕ) → IsTrue (is_plain_group_v2_in S.numbers m) → AreOwnEdits p m a o → MeansStored (after S (a ∷ o ∷ set (p ++ zmetadata ∷ []) bytes ∷ [])) p (V2 m)
unfolding group_meaning
means_beside S p m a o bytes plain own shallow shallow' =
    line_elsewhere (after S (a ∷ o ∷ [])) p bytes nothing ∙ stored_own S p m a o nothing plain own shallow shallow'

-- ---- either version

-- what is stored means what was stored, in the numbers of the store
pub means_stored : (S : Contents) (p : Path) (m : GroupMetadata) (block : Option Block) (es : List Edit) → group_fault_in S.numbers m ≡ None → AreEditsOf (store_changes p m block) es → MeansStored (after S es) p m
means_stored S p (V3 m) block es fault are =
    let w = one_edit (p ++ zarr_json ∷ [], Some (group_v3_tree m)) es are in
    subst (λ xs. MeansStored (after S xs) p (V3 m)) (sym w.1) (means_v3 S p m w.0 (plain_v3 S.numbers m fault) (read_edit (p ++ zarr_json ∷ []) (Some (group_v3_tree m)) w.0 w.2))
means_stored S p (V2 m) None es fault are =
    let w = three_edits (p ++ zmetadata ∷ [], None) (p ++ zattrs ∷ [], unless (is_empty m.attributes) (object m.attributes)) (p ++ zgroup ∷ [], Some (group_v2_tree (group_without_attributes m))) es are in
    subst (λ xs. MeansStored (after S xs) p (V2 m)) (sym w.3)
    (subst (λ x. MeansStored (after S (x ∷ w.1 ∷ w.2 ∷ [])) p (V2 m)) (sym w.4)
    (means_bare S p m w.1 w.2 (plain_v2 S.numbers m fault)
    (read_edit (p ++ zattrs ∷ []) (unless (is_empty m.attributes) (object m.attributes)) w.1 w.5, read_edit (p ++ zgroup ∷ []) (Some (group_v2_tree (group_without_attributes m))) w.2 w.6)))
means_stored S p (V2 m) (Some B) es fault are =
    let w = three_edits (p ++ zattrs ∷ [], unless (is_empty m.attributes) (object m.attributes)) (p ++ zgroup ∷ [], Some (group_v2_tree (group_without_attributes m))) (p ++ zmetadata ∷ [], Some (zmetadata_tree m B)) es are in
    subst (λ xs. MeansStored (after S xs) p (V2 m)) (sym w.3)
    (subst (λ x. MeansStored (after S (w.0 ∷ w.1 ∷ x ∷ [])) p (V2 m)) (sym w.6.1)
    (means_beside S p m w.0 w.1 w.6.0 (plain_v2 S.numbers m fault)
    (read_edit (p ++ zattrs ∷ []) (unless (is_empty m.attributes) (object m.attributes)) w.0 w.4, read_edit (p ++ zgroup ∷ []) (Some (group_v2_tree (group_without_attributes m))) w.1 w.5)))

-- so does what a store becomes
pub stored_means_in : StoredMeansIn
stored_means_in S S' p m block fault (es, are, is) = subst (λ T. MeansStored T p m) (sym is) (means_stored S p m block es fault are)

-- what is stored of the block is read as it
pub block_stored : (S : Contents) (p : Path) (m : GroupMetadata) (block : Option Block) (es : List Edit) → AreEditsOf (store_changes p m block) es → IsBlockReadBack (after S es) p m block
block_stored S p (V3 m) block es are = tt
block_stored S p (V2 m) None es are = tt
block_stored S p (V2 m) (Some B) es are =
    let key : Segments = p ++ zmetadata ∷ [] in
    let w = three_edits (p ++ zattrs ∷ [], unless (is_empty m.attributes) (object m.attributes)) (p ++ zgroup ∷ [], Some (group_v2_tree (group_without_attributes m))) (key, Some (zmetadata_tree m B)) es are in
    subst (λ xs. IsBlockReadBack (after S xs) p (V2 m) (Some B)) (sym w.3)
    (subst (λ x. IsBlockReadBack (after S (w.0 ∷ w.1 ∷ x ∷ [])) p (V2 m) (Some B)) (sym w.6.1)
    (λ shallow. (w.6.0, get_inserted (after S (w.0 ∷ w.1 ∷ [])).values key w.6.0, w.6.2.reads shallow)))

-- ---- whole numbers

-- what was stored once in whole numbers means itself wherever its exact edits are done
pub stored_means : (q : Path) (m : GroupMetadata) (es : List Edit) → group_fault_in Whole m ≡ None → AreEditsOf (store_changes q m None) es → StoredMeans m
stored_means q (V3 m) es fault are S p block =
    let w = one_edit (q ++ zarr_json ∷ [], Some (group_v3_tree m)) es are in
    means_v3 S p m (whole_edit (p ++ zarr_json ∷ []) (Some (group_v3_tree m))) (plain_v3 S.numbers m (no_fault_more S.numbers (V3 m) fault))
    (read_exactly (p ++ zarr_json ∷ []) (q ++ zarr_json ∷ []) (Some (group_v3_tree m)) w.0 (group_v3_no_float m (plain_v3 Whole m fault)) w.2)
stored_means q (V2 m) es fault are S p block =
    let w = three_edits (q ++ zmetadata ∷ [], None) (q ++ zattrs ∷ [], unless (is_empty m.attributes) (object m.attributes)) (q ++ zgroup ∷ [], Some (group_v2_tree (group_without_attributes m))) es are in
    let whole = own_whole m fault in
    let plain : IsTrue (is_plain_group_v2_in S.numbers m) = plain_v2 S.numbers m (no_fault_more S.numbers (V2 m) fault) in
    let a : Edit = whole_edit (p ++ zattrs ∷ []) (unless (is_empty m.attributes) (object m.attributes)) in
    let o : Edit = whole_edit (p ++ zgroup ∷ []) (Some (group_v2_tree (group_without_attributes m))) in
    let own : AreOwnEdits p m a o =
    (read_exactly (p ++ zattrs ∷ []) (q ++ zattrs ∷ []) (unless (is_empty m.attributes) (object m.attributes)) w.1 whole.0 w.5, read_exactly (p ++ zgroup ∷ []) (q ++ zgroup ∷ []) (Some (group_v2_tree (group_without_attributes m))) w.2 whole.1 w.6) in
    by block own plain
  where
    by : (block : Option Block) → AreOwnEdits p m (whole_edit (p ++ zattrs ∷ []) (unless (is_empty m.attributes) (object m.attributes))) (whole_edit (p ++ zgroup ∷ []) (Some (group_v2_tree (group_without_attributes m))))
        → IsTrue (is_plain_group_v2_in S.numbers m) → MeansStored (after S (store_edits p (V2 m) block)) p (V2 m)
    by None own plain = means_bare S p m _ _ plain own
    by (Some B) own plain = means_beside S p m _ _ (pretty_text (zmetadata_tree m B)) plain own
