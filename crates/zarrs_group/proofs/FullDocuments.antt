-- The nodes of a block written in full, entry by entry.
use Rattle.std.proofs.Common.{◌≡◌, ℕ, List, [], ◌∷◌, ◌++◌, String, Global, string_bytes, string_cmp, refl, ap, sym, subst, append_assoc, ◌∙◌}
use Rattle.std.specs.List.Sorted.{IsStrictlySortedBy}
use Rattle.std.specs.Map.{keys_of}
use Rattle.serde_json.specs.Data.{Data, Members, member, put}
use Rattle.zarrs_form.proofs.MemberLists.{members_by, put_last}
use Rattle.zarrs_meta.specs.declared.node.NodeMetadata.{NodeMetadata}
use Rattle.zarrs_block.specs.Block.{Block}
use Rattle.zarrs_block.proofs.BlockLaws.{nothing_behind, shown}
use Rattle.zarrs_group.specs.FullBlocks.{full_documents, full_node}

-- what is written of the entries of a map is what is written of the block
written_shown : (es : List (String Global × NodeMetadata)) → members_by full_node es ≡ full_documents (shown es)
written_shown [] = refl
written_shown (e ∷ es) = ap (member (string_bytes e.0) (full_node e.1)) (written_shown es)

-- the first entries are written as the members, and the others are left
abbrev pub Written : Members → Block → List (String Global × NodeMetadata) → Type 0
Written ms B left =
    (done : List (String Global × NodeMetadata)) × IsStrictlySortedBy string_cmp (keys_of (done ++ left)) × (shown (done ++ left) ≡ B) × (ms ≡ members_by full_node done)

-- one more is written
pub written_next : (ms ns : Members) (B : Block) (left : List (String Global × NodeMetadata)) (e : String Global × NodeMetadata) (es : List (String Global × NodeMetadata)) (t : List ℕ) (d : Data)
    → left ≡ e ∷ es → t ≡ string_bytes e.0 → d ≡ full_node e.1 → ns ≡ put t d ms → Written ms B left → Written ns B es
written_next ms ns B left e es t d is key tree new h =
    let done = h.0 in
    let here : done ++ left ≡ (done ++ e ∷ []) ++ es = ap (λ xs. done ++ xs) is ∙ sym (append_assoc done (e ∷ []) es) in
    let ascend : IsStrictlySortedBy string_cmp (keys_of (done ++ e ∷ es)) = subst (λ xs. IsStrictlySortedBy string_cmp (keys_of (done ++ xs))) is h.1 in (
      done ++ e ∷ [],
      subst (λ xs. IsStrictlySortedBy string_cmp (keys_of xs)) here h.1,
      ap shown (sym here) ∙ h.2,
      new ∙ (λ i. put (key i) (tree i) (h.3 i)) ∙ put_last full_node done e es ascend,
    )

-- where none is left, all is written
pub all_written : (ms : Members) (B : Block) (left : List (String Global × NodeMetadata)) → left ≡ [] → Written ms B left → ms ≡ full_documents B
all_written ms B left none h =
    h.3 ∙ written_shown h.0 ∙ ap full_documents (ap shown (sym (nothing_behind h.0) ∙ ap (λ xs. h.0 ++ xs) (sym none)) ∙ h.2)
