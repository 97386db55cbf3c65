-- What is written of a plain version 3 group reads as that group.
use Rattle.std.proofs.Common.{◌≡◌, ℕ, List, true, false, not, Option, Some, Ok, IsTrue, codes, refl, ap, ◌∙◌}
use Rattle.serde_json.specs.Data.{Data, number, string, object, unsigned, Members, no_members}
use Rattle.serde_json.specs.Find.{get_member, as_object}
use Rattle.serde_json.specs.Written.{has_float, members_have_float}
use Rattle.zarrs_form.specs.Documents.{besides, document_in, has_own, is_null, is_empty, optional_found, optional_member, format_of, node_type_of}
use Rattle.zarrs_form.specs.Forms.{fits, fits_in, unless, put_rows}
use Rattle.zarrs_meta.specs.GroupV3.{group_v3_names, group_v3_in, group_v3_rows, group_v3_tree, is_plain_group_v3_in}
use Rattle.zarrs_fault.specs.declared.numbers.Numbers.{Numbers}
use Rattle.zarrs_fault.specs.declared.numbers.Numbers.TheVariants.{Whole, Any}
use Rattle.zarrs_meta.specs.declared.group_v3.GroupMetadataV3.{GroupMetadataV3}
use Rattle.zarrs_form.proofs.MemberLaws.{besides-others, get-others}
use Rattle.zarrs_form.proofs.RowLaws.{or_rest, found, get-put_rows, besides-put_rows, no_float-put_rows, both}
use Rattle.zarrs_form.proofs.AttributeLaws.{not_true, attributes_again, attributes_no_float}

-- what a plain group has: its numbers are among these, no field has an own name, and no field `consolidated_metadata` is null
abbrev pub PlainGroupV3In : Numbers → GroupMetadataV3 → Type 0
PlainGroupV3In numbers m =
    (fits_in numbers (object m.attributes) ≡ true) × (fits_in numbers (object m.additional_fields) ≡ true) × (has_own group_v3_names m.additional_fields ≡ false)
    × (is_null (get_member (codes "consolidated_metadata") m.additional_fields) ≡ false)

-- the test takes a plain group apart
pub plain_group_v3_in : (numbers : Numbers) (m : GroupMetadataV3) → IsTrue (is_plain_group_v3_in numbers m) → PlainGroupV3In numbers m
plain_group_v3_in numbers m plain =
    let c = both _ (not (is_null (get_member (codes "consolidated_metadata") m.additional_fields))) plain in
    let b = both _ (not (has_own group_v3_names m.additional_fields)) c.0 in
    let a = both (fits_in numbers (object m.attributes)) (fits_in numbers (object m.additional_fields)) b.0 in (
      a.0,
      a.1,
      not_true (has_own group_v3_names m.additional_fields) b.1,
      not_true (is_null (get_member (codes "consolidated_metadata") m.additional_fields)) c.1,
    )

-- what a group has that is plain in whole numbers
abbrev pub PlainGroupV3 : GroupMetadataV3 → Type 0
PlainGroupV3 m =
    (fits (object m.attributes) ≡ true) × (members_have_float m.additional_fields ≡ false) × (has_own group_v3_names m.additional_fields ≡ false)
    × (is_null (get_member (codes "consolidated_metadata") m.additional_fields) ≡ false)

-- the test takes such a group apart
pub plain_group_v3 : (m : GroupMetadataV3) → IsTrue (is_plain_group_v3_in Whole m) → PlainGroupV3 m
plain_group_v3 m plain =
    let parts = plain_group_v3_in Whole m plain in
    (parts.0, not_true (members_have_float m.additional_fields) parts.1, parts.2, parts.3)

-- every number that is written fits
pub group_v3_no_float : (m : GroupMetadataV3) → IsTrue (is_plain_group_v3_in Whole m) → has_float (group_v3_tree m) ≡ false
group_v3_no_float m plain =
    let parts = plain_group_v3 m plain in
    no_float-put_rows (group_v3_rows m) m.additional_fields (refl, (refl, (attributes_no_float m.attributes parts.0, tt))) parts.1

-- what is written is a document whose numbers are among these
pub is_document : (numbers : Numbers) (m : GroupMetadataV3) → IsTrue (is_plain_group_v3_in numbers m) → document_in numbers (group_v3_tree m) ≡ Ok (put_rows (group_v3_rows m) m.additional_fields)
is_document Whole m plain = rw (group_v3_no_float m plain) refl
is_document Any m plain = refl

module _ (numbers : Numbers) (m : GroupMetadataV3) (plain : IsTrue (is_plain_group_v3_in numbers m)) where
  -- the parts of being plain
  parts : PlainGroupV3In numbers m
  parts = plain_group_v3_in numbers m plain

  -- the rows of the table
  abbrev rows : List (List ℕ × Option Data)
  rows = group_v3_rows m

  -- the members of the written document
  abbrev whole : Members
  whole = put_rows rows m.additional_fields

  -- what stands at a name: what its row says, else what the additional fields have
  at : (k : List ℕ) → get_member k whole ≡ found k rows (get_member k m.additional_fields)
  at k = get-put_rows k rows m.additional_fields

  -- the format is found
  pub has_format : get_member (codes "zarr_format") whole ≡ Some (number (unsigned 3))
  has_format = at (codes "zarr_format")

  -- the kind of node is found
  pub has_kind : get_member (codes "node_type") whole ≡ Some (string (codes "group"))
  has_kind = at (codes "node_type")

  -- the attributes read again
  attributes : optional_member (codes "attributes") no_members as_object (object whole) ≡ Ok m.attributes
  attributes = ap (optional_found (codes "attributes") no_members as_object)
      (at (codes "attributes") ∙ ap (or_rest (unless (is_empty m.attributes) (object m.attributes))) (get-others group_v3_names (codes "attributes") m.additional_fields refl parts.2))
      ∙ attributes_again m.attributes

  -- no block that is null is found
  no_block : is_null (get_member (codes "consolidated_metadata") whole) ≡ false
  no_block = ap is_null (at (codes "consolidated_metadata")) ∙ parts.3

  -- the members with no own name are the additional fields
  others : besides group_v3_names whole ≡ m.additional_fields
  others = besides-put_rows group_v3_names rows m.additional_fields refl ∙ besides-others group_v3_names m.additional_fields parts.2

  -- a group that is plain in these numbers and was written reads as that group in them
  pub group_v3_again_in : group_v3_in numbers (group_v3_tree m) ≡ Ok m
  unfolding group_v3_in format_of node_type_of
  group_v3_again_in = rw (is_document numbers m plain, has_format, has_kind, attributes, no_block, others) refl
