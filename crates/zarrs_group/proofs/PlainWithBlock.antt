-- A version 3 group stays plain in any numbers where it takes a block that reads back in them.
use Rattle.std.proofs.Common.{◌≡◌, ℕ, List, true, false, Less, Equal, Greater, Ordering, Ok, IsTrue, nat_cmp, codes, refl, ap}
use Rattle.std.specs.Ordering.{match_ordering}
use Rattle.std.specs.Cmp.Lexicographic.{slice_cmp}
use Rattle.serde_json.specs.Data.{Data, boolean, object, Members, no_members, member, put}
use Rattle.serde_json.specs.Find.{get_member}
use Rattle.serde_json.specs.Written.{has_float, members_have_float}
use Rattle.serde_json.proofs.Views.{get_member-put}
use Rattle.zarrs_fault.specs.declared.numbers.Numbers.{Numbers}
use Rattle.zarrs_fault.specs.declared.numbers.Numbers.TheVariants.{Whole, Any}
use Rattle.zarrs_form.specs.Documents.{document_in, is_own, has_own, is_null}
use Rattle.zarrs_form.specs.Fields.{field_data}
use Rattle.zarrs_form.specs.Forms.{fits_in}
use Rattle.zarrs_form.proofs.AttributeLaws.{not_true}
use Rattle.zarrs_form.proofs.MemberLaws.{neither, no_float-put}
use Rattle.zarrs_form.proofs.PlainForms.{both_true, false_not, of_ok, IsDocument, document_fits, document_numbers}
use Rattle.zarrs_meta.specs.GroupV3.{group_v3_names, is_plain_group_v3_in}
use Rattle.zarrs_meta.specs.declared.group_v3.GroupMetadataV3.{GroupMetadataV3}
use Rattle.zarrs_meta.proofs.GroupV3Laws.{plain_group_v3_in}
use Rattle.zarrs_block.specs.Block.{Block, block_of_in, inline_block}
use Rattle.zarrs_group.proofs.GivesBack.{step_of}

-- ---- a member that is put

-- the numbers of members stay among these where a member with such numbers is put
fits-put : (numbers : Numbers) (k : List ℕ) (d : Data) (ms : Members) → fits_in numbers d ≡ true → fits_in numbers (object ms) ≡ true → fits_in numbers (object (put k d ms)) ≡ true
fits-put Whole k d ms one all =
    false_not (members_have_float (put k d ms)) (no_float-put k d ms (not_true (has_float d) one) (not_true (members_have_float ms) all))
fits-put Any k d ms one all = refl

-- none of the names is brought in by a name that is none of them, whether it is put before a member, in its place or behind it
own_put_at : (o : Ordering) (names : List (List ℕ)) (k l : List ℕ) (d e : Data) (ms ns : Members) → is_own names k ≡ false → is_own names l ≡ false → has_own names ms ≡ false → has_own names ns ≡ false
    → has_own names (match_ordering o (member k d (member l e ms)) (member l d ms) (member l e ns)) ≡ false
own_put_at Less names k l d e ms ns one other rest later = rw (one, other, rest) refl
own_put_at Equal names k l d e ms ns one other rest later = rw (other, rest) refl
own_put_at Greater names k l d e ms ns one other rest later = rw (other, later) refl

-- members of which none has one of the names have none where a member of another name is put among them
own-put : (names : List (List ℕ)) (k : List ℕ) (d : Data) (ms : Members) → is_own names k ≡ false → has_own names ms ≡ false → has_own names (put k d ms) ≡ false
own-put names k d no_members one none = rw one refl
own-put names k d (member l e ms) one none =
    let parts = neither (is_own names l) (has_own names ms) none in
    own_put_at (slice_cmp nat_cmp k l) names k l d e ms (put k d ms) one parts.0 parts.1 (own-put names k d ms one parts.1)

-- ---- the field of a block

module _ (numbers : Numbers) (D : Members) (B : Block) (reads : block_of_in numbers (inline_block D) ≡ Ok B) where
  -- the numbers of a block of documents that reads in these numbers are among them
  tree_numbers : fits_in numbers (inline_block D) ≡ true
  unfolding block_of_in
  tree_numbers =
      let first = step_of (document_in numbers (inline_block D)) _ B reads in
      document_numbers numbers (inline_block D) first.0 (of_ok (IsDocument numbers (inline_block D)) (document_in numbers (inline_block D)) first.0 (document_fits numbers (inline_block D)) first.1)

  -- so are those of its field
  field_numbers : fits_in numbers (field_data (inline_block D) false) ≡ true
  field_numbers = fits-put numbers (codes "must_understand") (boolean false) _ (no_fraction numbers) tree_numbers
    where
      no_fraction : (numbers : Numbers) → fits_in numbers (boolean false) ≡ true
      no_fraction Whole = refl
      no_fraction Any = refl

  -- a plain group with the field of the block is plain
  pub plain_with_block : (m : GroupMetadataV3) → IsTrue (is_plain_group_v3_in numbers m)
      → IsTrue (is_plain_group_v3_in numbers (record { attributes = m.attributes; additional_fields = put (codes "consolidated_metadata") (field_data (inline_block D) false) m.additional_fields }))
  plain_with_block m plain =
      let parts = plain_group_v3_in numbers m plain in
      let name = codes "consolidated_metadata" in
      let fields = put name (field_data (inline_block D) false) m.additional_fields in
      both_true _ _
      (both_true _ _ (both_true (fits_in numbers (object m.attributes)) (fits_in numbers (object fields)) parts.0 (fits-put numbers name (field_data (inline_block D) false) m.additional_fields field_numbers parts.1))
      (false_not (has_own group_v3_names fields) (own-put group_v3_names name (field_data (inline_block D) false) m.additional_fields refl parts.2)))
      (false_not (is_null (get_member name fields)) (ap is_null (get_member-put name (field_data (inline_block D) false) m.additional_fields)))
