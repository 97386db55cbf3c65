-- What is written of a plain version 2 group reads as that group.
use Rattle.std.proofs.Common.{◌≡◌, ℕ, List, true, false, not, Option, Some, None, Ok, IsTrue, codes, refl, ap, ◌∙◌}
use Rattle.serde_json.specs.Data.{Data, number, object, unsigned, Members, no_members}
use Rattle.serde_json.specs.Find.{get_member, as_object}
use Rattle.serde_json.specs.Written.{has_float, members_have_float}
use Rattle.zarrs_form.specs.Documents.{besides, document_in, has_own, is_empty, optional_found, optional_member, format_of}
use Rattle.zarrs_form.specs.Forms.{fits, fits_in, unless, put_rows}
use Rattle.zarrs_meta.specs.GroupV2.{group_v2_in, group_v2_names, group_v2_rows, group_v2_tree, is_plain_group_v2, is_plain_group_v2_in}
use Rattle.zarrs_fault.specs.declared.numbers.Numbers.{Numbers}
use Rattle.zarrs_fault.specs.declared.numbers.Numbers.TheVariants.{Whole, Any}
use Rattle.zarrs_meta.specs.declared.group_v2.GroupMetadataV2.{GroupMetadataV2}
use Rattle.zarrs_form.proofs.MemberLaws.{besides-others, get-others}
use Rattle.zarrs_form.proofs.RowLaws.{or_rest, found, get-put_rows, besides-put_rows, no_float-put_rows, both}
use Rattle.zarrs_form.proofs.AttributeLaws.{not_true, attributes_again, attributes_no_float}

-- what a plain group has: its numbers are among these, and no field has an own name
abbrev pub PlainGroupV2In : Numbers → GroupMetadataV2 → Type 0
PlainGroupV2In numbers m = (fits_in numbers (object m.attributes) ≡ true) × (fits_in numbers (object m.additional_fields) ≡ true) × (has_own group_v2_names m.additional_fields ≡ false)

-- the test takes a plain group apart
pub plain_group_v2_in : (numbers : Numbers) (m : GroupMetadataV2) → IsTrue (is_plain_group_v2_in numbers m) → PlainGroupV2In numbers m
plain_group_v2_in numbers m plain =
    let b = both _ (not (has_own group_v2_names m.additional_fields)) plain in
    let a = both (fits_in numbers (object m.attributes)) (fits_in numbers (object m.additional_fields)) b.0 in
    (a.0, a.1, not_true (has_own group_v2_names m.additional_fields) b.1)

-- what a group has that is plain in whole numbers
abbrev pub PlainGroupV2 : GroupMetadataV2 → Type 0
PlainGroupV2 m = (fits (object m.attributes) ≡ true) × (members_have_float m.additional_fields ≡ false) × (has_own group_v2_names m.additional_fields ≡ false)

-- the test takes such a group apart
pub plain_group_v2 : (m : GroupMetadataV2) → IsTrue (is_plain_group_v2 m) → PlainGroupV2 m
plain_group_v2 m plain =
    let parts = plain_group_v2_in Whole m plain in
    (parts.0, not_true (members_have_float m.additional_fields) parts.1, parts.2)

-- every number that is written fits
pub group_v2_no_float : (m : GroupMetadataV2) → IsTrue (is_plain_group_v2 m) → has_float (group_v2_tree m) ≡ false
group_v2_no_float m plain =
    let parts = plain_group_v2 m plain in
    no_float-put_rows (group_v2_rows m) m.additional_fields (refl, (attributes_no_float m.attributes parts.0, tt)) parts.1

-- what is written is a document that may hold these numbers
pub is_document : (numbers : Numbers) (m : GroupMetadataV2) → IsTrue (is_plain_group_v2_in numbers m) → document_in numbers (group_v2_tree m) ≡ Ok (put_rows (group_v2_rows m) m.additional_fields)
is_document Whole m plain = rw (group_v2_no_float m plain) refl
is_document Any m plain = refl

module _ (numbers : Numbers) (m : GroupMetadataV2) (plain : IsTrue (is_plain_group_v2_in numbers m)) where
  -- the parts of being plain
  parts : PlainGroupV2In numbers m
  parts = plain_group_v2_in numbers m plain

  -- the rows of the table
  abbrev rows : List (List ℕ × Option Data)
  rows = group_v2_rows m

  -- the members of the written document
  abbrev whole : Members
  whole = put_rows rows m.additional_fields

  -- what stands at a name: what its row says, else what the additional fields have
  at : (k : List ℕ) → get_member k whole ≡ found k rows (get_member k m.additional_fields)
  at k = get-put_rows k rows m.additional_fields

  -- the format is found
  pub has_format : get_member (codes "zarr_format") whole ≡ Some (number (unsigned 2))
  has_format = at (codes "zarr_format")

  -- no shape is found
  pub no_shape : get_member (codes "shape") whole ≡ None
  no_shape = at (codes "shape") ∙ get-others group_v2_names (codes "shape") m.additional_fields refl parts.2

  -- the attributes read again
  attributes : optional_member (codes "attributes") no_members as_object (object whole) ≡ Ok m.attributes
  attributes = ap (optional_found (codes "attributes") no_members as_object)
      (at (codes "attributes") ∙ ap (or_rest (unless (is_empty m.attributes) (object m.attributes))) (get-others group_v2_names (codes "attributes") m.additional_fields refl parts.2))
      ∙ attributes_again m.attributes

  -- the members with no own name are the additional fields
  others : besides group_v2_names whole ≡ m.additional_fields
  others = besides-put_rows group_v2_names rows m.additional_fields refl ∙ besides-others group_v2_names m.additional_fields parts.2

  -- a group that is plain in these numbers and was written reads as that group in them
  pub group_v2_again_in : group_v2_in numbers (group_v2_tree m) ≡ Ok m
  unfolding group_v2_in format_of
  group_v2_again_in = rw (is_document numbers m plain, has_format, no_shape, attributes, others) refl
