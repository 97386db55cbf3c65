-- Where no number is a fraction, the edits that store a group are known byte by byte.
use Rattle.std.proofs.Common.{◌≡◌, ◌⊎◌, false, ⊎_elim, List, [], ◌∷◌, Option, Some, None, refl, sym, ap, ap₂, subst, ◌∙◌, map}
use Rattle.std.specs.Prelude.{IfSome}
use Rattle.json.specs.Layout.{pretty}
use Rattle.serde_json.specs.Data.{Data, Members, no_members, member, object}
use Rattle.serde_json.specs.Written.{has_float, members_have_float}
use Rattle.serde_json.proofs.Texts.{tokens_from_order}
use Rattle.zarrs_store.specs.Segments.{Segments}
use Rattle.zarrs_store.specs.Contents.{Contents}
use Rattle.zarrs_store.specs.declared.storage_error.StorageError.TheVariants.{Fault, InvalidMetadata, Other, OutOfMemory}
use Rattle.zarrs_fault.specs.declared.numbers.Numbers.TheVariants.{Whole}
use Rattle.zarrs_path.specs.Paths.{Path}
use Rattle.zarrs_form.specs.Documents.{is_empty}
use Rattle.zarrs_form.specs.Forms.{unless}
use Rattle.zarrs_form.proofs.AttributeLaws.{not_true}
use Rattle.zarrs_meta.specs.GroupV2.{group_v2_tree}
use Rattle.zarrs_meta.specs.Node.{group_without_attributes}
use Rattle.zarrs_meta.specs.declared.group_v2.GroupMetadataV2.{GroupMetadataV2}
use Rattle.zarrs_meta.specs.declared.node.GroupMetadata.{GroupMetadata}
use Rattle.zarrs_meta.specs.declared.node.GroupMetadata.TheVariants.{V3, V2}
use Rattle.zarrs_meta.proofs.GroupV3Laws.{group_v3_no_float}
use Rattle.zarrs_meta.proofs.GroupV2Laws.{group_v2_no_float}
use Rattle.zarrs_block.specs.Block.{Block}
use Rattle.zarrs_group.specs.Edits.{Edit, set, IsCutShort}
use Rattle.zarrs_group.specs.StoredTexts.{StoredTextIsExact, StoredTextIsText}
use Rattle.zarrs_group.specs.Laws.{WholeEditsAreExact, WholeRefusalIsExact}
use Rattle.zarrs_group.specs.Plain.{group_v2_fault_in}
use Rattle.zarrs_group.specs.StoringGroups.{AreEditsOf, IsEditAt, IsStoringCutShort, KeyChange, store_changes, store_edits, stored_fault_in, whole_edit}
use Rattle.zarrs_group.proofs.BlockPlain.{tree_fits}
use Rattle.zarrs_group.proofs.PlainLaws.{fits_v2, plain_v2, plain_v3, plain_without}
use Rattle.zarrs_group.proofs.StoreLemmas.{beside_plain, none_stored, own_plain}

-- what is stored of a tree without a fraction is its pretty layout
pub stored_text_is_exact : StoredTextIsExact
stored_text_is_exact bytes d text whole = text.layout ∙ ap pretty (tokens_from_order bytes d text.order whole)

-- and what is stored of a tree that does not nest too deep is what is written of it
pub stored_text_is_text : StoredTextIsText
stored_text_is_text bytes d text shallow = record { utf8 = text.utf8; layout = text.layout; order = text.order; reads = text.reads shallow }

-- a tree without a fraction, or none
abbrev pub IsWhole : Option Data → Type 0
IsWhole t = IfSome t (λ d. has_float d ≡ false)

-- the edit of a change without a fraction
pub exact_at : (key : Segments) (t : Option Data) (e : Edit) → IsWhole t → IsEditAt key t e → e ≡ whole_edit key t
exact_at key (Some d) e whole (bytes, is, text) = is ∙ ap (set key) (stored_text_is_exact bytes d text whole)
exact_at key None e whole is = is

-- the trees of the changes have no fraction
abbrev AreWhole : List KeyChange → Type 0
AreWhole [] = Unit {0}
AreWhole (c ∷ cs) = IsWhole c.1 × AreWhole cs

-- the edits of changes without a fraction
exact : (cs : List KeyChange) (es : List Edit) → AreWhole cs → AreEditsOf cs es → es ≡ map (λ c. whole_edit c.0 c.1) cs
exact [] [] whole are = refl
exact [] (e ∷ es) whole are = absurd are
exact (c ∷ cs) [] whole are = absurd are
exact (c ∷ cs) (e ∷ es) whole are = ap₂ (λ x xs. x ∷ xs) (exact_at c.0 c.1 e whole.0 are.0) (exact cs es whole.1 are.1)

-- attributes without a fraction are written without one
attributes_whole : (a : Members) → members_have_float a ≡ false → IsWhole (unless (is_empty a) (object a))
attributes_whole no_members whole = tt
attributes_whole (member k d ms) whole = whole

-- so are the documents of a version 2 group without a fault
pub own_whole : (m : GroupMetadataV2) → group_v2_fault_in Whole m ≡ None → IsWhole (unless (is_empty m.attributes) (object m.attributes)) × (has_float (group_v2_tree (group_without_attributes m)) ≡ false)
own_whole m none = (
  attributes_whole m.attributes (not_true (members_have_float m.attributes) (fits_v2 Whole m none).0),
  group_v2_no_float (group_without_attributes m) (plain_without Whole m (plain_v2 Whole m none)),
)

-- and those of a group without a fault
changes_whole : (p : Path) (m : GroupMetadata) (block : Option Block) → stored_fault_in Whole p m block ≡ None → AreWhole (store_changes p m block)
changes_whole p (V3 m) block none = (group_v3_no_float m (plain_v3 Whole m (own_plain Whole p (V3 m) block none)), tt)
changes_whole p (V2 m) None none = let own = own_whole m (own_plain Whole p (V2 m) None none) in (tt, (own.0, (own.1, tt)))
changes_whole p (V2 m) (Some B) none =
    let plain : group_v2_fault_in Whole m ≡ None = own_plain Whole p (V2 m) (Some B) none in
    let own = own_whole m plain in
    (own.0, (own.1, (tree_fits m B plain (beside_plain Whole p (V2 m) (Some B) none), tt)))

-- so the edits that store it are exactly those of whole numbers
pub whole_edits_are_exact : WholeEditsAreExact
whole_edits_are_exact p m block es none are = exact (store_changes p m block) es (changes_whole p m block none) are

-- over a store of whole numbers, or of a group that is plain in these, they were cut short where a first part was done
cut_exact : (p : Path) (m : GroupMetadata) (block : Option Block) (S S' : Contents) → (S.numbers ≡ Whole) ⊎ (stored_fault_in Whole p m block ≡ None) → IsStoringCutShort p m block S S' → IsCutShort S (store_edits p m block) S'
cut_exact p m block S S' whole c =
    let plain : stored_fault_in Whole p m block ≡ None = ⊎_elim (λ numbers. subst (λ n. stored_fault_in n p m block ≡ None) numbers c.plain) (λ none. none) whole in
    subst (λ es. IsCutShort S es S') (whole_edits_are_exact p m block c.edits plain c.are) c.cut

-- where nothing was done they were cut short at the first
unchanged_exact : (p : Path) (m : GroupMetadata) (block : Option Block) (S S' : Contents) → S' ≡ S → IsCutShort S (store_edits p m block) S'
unchanged_exact p m block S S' same = subst (IsCutShort S (store_edits p m block)) (sym same) (none_stored S p m block)

-- so a refused storing was cut short in them
pub whole_refusal_is_exact : WholeRefusalIsExact
whole_refusal_is_exact can_fail p m block S S' Fault whole h = cut_exact p m block S S' whole h.1
whole_refusal_is_exact can_fail p m block S S' (InvalidMetadata key fault) whole h = unchanged_exact p m block S S' h.0
whole_refusal_is_exact can_fail p m block S S' (Other text) whole h = absurd h
whole_refusal_is_exact can_fail p m block S S' OutOfMemory whole h = ⊎_elim (unchanged_exact p m block S S') (cut_exact p m block S S' whole) h
