-- Every group that reading gives is plain.
use Rattle.std.proofs.Common.{◌≡◌, ℕ, List, [], ◌∷◌, Bool, true, false, ◌||◌, if◌then◌else◌, Ok, IsTrue, codes, bytes_eq, refl, ap, sym, ◌∙◌, subst}
use Rattle.serde_json.specs.Data.{Data, object, Members, no_members}
use Rattle.serde_json.specs.Find.{get, get_member, as_object}
use Rattle.zarrs_form.specs.Documents.{is_own, besides, has_own, is_null, document_in, format_of, node_type_of, optional_member, no_member}
use Rattle.zarrs_form.specs.Forms.{fits_in}
use Rattle.zarrs_meta.specs.GroupV3 as v3
use Rattle.zarrs_meta.specs.GroupV3.{read_names, group_v3_in, is_plain_group_v3_in}
use Rattle.zarrs_meta.specs.GroupV2 as v2
use Rattle.zarrs_meta.specs.GroupV2.{group_v2_in, is_plain_group_v2_in}
use Rattle.zarrs_fault.specs.declared.numbers.Numbers.{Numbers}
use Rattle.zarrs_meta.specs.declared.group_v3.GroupMetadataV3.{GroupMetadataV3}
use Rattle.zarrs_meta.specs.declared.group_v2.GroupMetadataV2.{GroupMetadataV2}
use Rattle.zarrs_form.proofs.MemberLaws.{get-others, get_besides}
use Rattle.zarrs_form.proofs.MemoryLaws.{absent_by, format_never, node_type_never}
use Rattle.zarrs_form.proofs.PlainForms.{ok_then, ok_next, of_ok, both_true, false_not, none_own, no_own-besides, fits-besides, no_members_fit, Reads, object_fitting, optional_fits, IsDocument, document_fits, document_numbers}

-- attributes that were read have only numbers that fit
pub attributes_fit : (numbers : Numbers) (d : Data) → fits_in numbers d ≡ true → Reads (optional_member (codes "attributes") no_members as_object d) (λ ms. fits_in numbers (object ms) ≡ true)
attributes_fit numbers d h = optional_fits numbers no_members as_object (λ ms. fits_in numbers (object ms)) (object_fitting numbers) (no_members_fit numbers) (codes "attributes") d h

-- ---- version 2

-- a version 2 group could have come from a document that may hold these numbers
abbrev pub PlainV2In : Numbers → GroupMetadataV2 → Type 0
PlainV2In numbers m = IsTrue (is_plain_group_v2_in numbers m)

-- the additional fields fit, and none has an own name
plain_v2 : (numbers : Numbers) (ms attributes : Members) → fits_in numbers (object ms) ≡ true → fits_in numbers (object attributes) ≡ true
    → PlainV2In numbers (record { attributes = attributes; additional_fields = besides v2.group_v2_names ms })
plain_v2 numbers ms attributes h fine =
    let fields = besides v2.group_v2_names ms in
    both_true _ _ (both_true (fits_in numbers (object attributes)) (fits_in numbers (object fields)) fine (fits-besides numbers v2.group_v2_names ms h))
    (false_not (has_own v2.group_v2_names fields) (no_own-besides v2.group_v2_names ms))

-- step by step, as the document is read
pub group_v2_plain_in : (numbers : Numbers) (d : Data) → Reads (group_v2_in numbers d) (PlainV2In numbers)
unfolding group_v2_in
group_v2_plain_in numbers d =
    ok_then (IsDocument numbers d) (PlainV2In numbers) (document_in numbers d) _ (document_fits numbers d) (λ ms h.
    ok_next (PlainV2In numbers) (format_of 2 d) _ (format_never 2 d) (λ _.
    ok_next (PlainV2In numbers) (no_member (codes "shape") d) _ (absent_by (get (codes "shape") d) (codes "shape")) (λ _.
    ok_then (λ a. fits_in numbers (object a) ≡ true) (PlainV2In numbers) (optional_member (codes "attributes") no_members as_object d) _ (attributes_fit numbers d (document_numbers numbers d ms h)) (λ a fine.
    plain_v2 numbers ms a h.1 fine))))

-- a version 2 group that was read is plain in its numbers
pub read_group_v2_is_plain_in : (numbers : Numbers) (d : Data) (m : GroupMetadataV2) → group_v2_in numbers d ≡ Ok m → IsTrue (is_plain_group_v2_in numbers m)
read_group_v2_is_plain_in numbers d m e = of_ok (PlainV2In numbers) (group_v2_in numbers d) m (group_v2_plain_in numbers d) e

-- ---- version 3

-- a version 3 group could have come from a document that may hold these numbers
abbrev pub PlainV3In : Numbers → GroupMetadataV3 → Type 0
PlainV3In numbers m = IsTrue (is_plain_group_v3_in numbers m)

-- the name of the field that counts as absent where it is null
abbrev block : List ℕ
block = codes "consolidated_metadata"

-- the own names, and `consolidated_metadata`
abbrev with_block : List (List ℕ)
with_block = codes "zarr_format" ∷ codes "node_type" ∷ codes "attributes" ∷ block ∷ []

-- what is none of four is none of the first three
fewer : (a b c d : Bool) → (a || (b || (c || (d || false)))) ≡ false → (a || (b || (c || false))) ≡ false
fewer true b c d h = h
fewer false true c d h = h
fewer false false true d h = h
fewer false false false d h = refl

-- what has none of these has no own name
among : (k : List ℕ) → is_own with_block k ≡ false → is_own v3.group_v3_names k ≡ false
among k h = fewer (bytes_eq (codes "zarr_format") k) (bytes_eq (codes "node_type") k) (bytes_eq (codes "attributes") k) (bytes_eq block k) h

-- fields with no own name and no null `consolidated_metadata`
abbrev Free : Members → Type 0
Free fields = (has_own v3.group_v3_names fields ≡ false) × (is_null (get_member block fields) ≡ false)

-- a null `consolidated_metadata` is left out, and another one stays
free_by : (b : Bool) (ms : Members) → is_null (get_member block ms) ≡ b → Free (besides (if b then with_block else v3.group_v3_names) ms)
free_by true ms e = (none_own v3.group_v3_names with_block among ms, ap is_null (get-others with_block block (besides with_block ms) refl (no_own-besides with_block ms)))
free_by false ms e = (no_own-besides v3.group_v3_names ms, ap is_null (get_besides v3.group_v3_names block ms refl) ∙ e)

-- so it is in a document
free_fields : (d : Data) (ms : Members) → d ≡ object ms → Free (besides (read_names d) ms)
free_fields d ms is = subst (λ (e : Data). Free (besides (read_names e) ms)) (sym is) (free_by (is_null (get_member block ms)) ms refl)

-- the additional fields fit, none has an own name, and no `consolidated_metadata` is null
plain_v3 : (numbers : Numbers) (d : Data) (ms attributes : Members) → IsDocument numbers d ms → fits_in numbers (object attributes) ≡ true
    → PlainV3In numbers (record { attributes = attributes; additional_fields = besides (read_names d) ms })
plain_v3 numbers d ms attributes h fine =
    let fields = besides (read_names d) ms in
    let free = free_fields d ms h.0 in
    both_true _ _
    (both_true _ _ (both_true (fits_in numbers (object attributes)) (fits_in numbers (object fields)) fine (fits-besides numbers (read_names d) ms h.1))
    (false_not (has_own v3.group_v3_names fields) free.0))
    (false_not (is_null (get_member block fields)) free.1)

-- step by step, as the document is read
pub group_v3_plain_in : (numbers : Numbers) (d : Data) → Reads (group_v3_in numbers d) (PlainV3In numbers)
unfolding group_v3_in
group_v3_plain_in numbers d =
    ok_then (IsDocument numbers d) (PlainV3In numbers) (document_in numbers d) _ (document_fits numbers d) (λ ms h.
    ok_next (PlainV3In numbers) (format_of 3 d) _ (format_never 3 d) (λ _.
    ok_next (PlainV3In numbers) (node_type_of (codes "group") d) _ (node_type_never (codes "group") d) (λ _.
    ok_then (λ a. fits_in numbers (object a) ≡ true) (PlainV3In numbers) (optional_member (codes "attributes") no_members as_object d) _ (attributes_fit numbers d (document_numbers numbers d ms h)) (λ a fine.
    plain_v3 numbers d ms a h fine))))

-- a version 3 group that was read is plain in its numbers
pub read_group_v3_is_plain_in : (numbers : Numbers) (d : Data) (m : GroupMetadataV3) → group_v3_in numbers d ≡ Ok m → IsTrue (is_plain_group_v3_in numbers m)
read_group_v3_is_plain_in numbers d m e = of_ok (PlainV3In numbers) (group_v3_in numbers d) m (group_v3_plain_in numbers d) e
