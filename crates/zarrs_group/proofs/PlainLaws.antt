-- A group is plain where it has no fault.
use Rattle.std.proofs.lemmas.Map.Text.{is_eq-slice_cmp}
use Rattle.std.specs.Ordering.{match_ordering}
use Rattle.std.specs.Cmp.Lexicographic.{slice_cmp}
use Rattle.std.proofs.Common.{Less, Equal, Greater, Ordering, is_eq, nat_cmp, bytes_eq, ◌≡◌, ℕ, List, [], ◌∷◌, Bool, true, false, ◌||◌, if◌then◌else◌, Option, Some, None, IsTrue, codes, refl, sym, ◌∙◌, is_some, option_map}
use Rattle.serde_json.specs.Data.{Data, Members, no_members, member, object}
use Rattle.serde_json.specs.Find.{get_member}
use Rattle.serde_json.specs.Written.{has_float, members_have_float}
use Rattle.zarrs_fault.specs.declared.fault.MetadataFault.{MetadataFault}
use Rattle.zarrs_fault.specs.declared.fault.MetadataFault.TheVariants.{UnsupportedNumber, BadMember}
use Rattle.zarrs_fault.specs.declared.numbers.Numbers.{Numbers}
use Rattle.zarrs_fault.specs.declared.numbers.Numbers.TheVariants.{Whole, Any}
use Rattle.zarrs_form.specs.Documents.{has_own, is_null}
use Rattle.zarrs_form.specs.Forms.{fits_in}
use Rattle.zarrs_meta.specs.GroupV3 as v3
use Rattle.zarrs_meta.specs.GroupV2 as v2
use Rattle.zarrs_meta.specs.Node.{group_without_attributes}
use Rattle.zarrs_meta.specs.declared.group_v3.GroupMetadataV3.{GroupMetadataV3}
use Rattle.zarrs_meta.specs.declared.group_v2.GroupMetadataV2.{GroupMetadataV2}
use Rattle.zarrs_meta.specs.declared.node.GroupMetadata.{GroupMetadata}
use Rattle.zarrs_meta.specs.declared.node.GroupMetadata.TheVariants.{V3, V2}
use Rattle.zarrs_form.proofs.MemberLaws.{get-others}
use Rattle.zarrs_form.proofs.AttributeLaws.{not_true}
use Rattle.zarrs_form.proofs.PlainForms.{false_not, no_members_fit}
use Rattle.zarrs_meta.proofs.GroupV3Laws.{plain_group_v3_in, group_v3_no_float}
use Rattle.zarrs_meta.proofs.GroupV2Laws.{plain_group_v2_in, group_v2_no_float}
use Rattle.zarrs_group.specs.Groups.{group_tree}
use Rattle.zarrs_group.specs.Plain.{has_member, members_exceed, group_v3_fault_in, group_v2_fault_in, group_fault_in}
use Rattle.zarrs_group.specs.Laws.{PlainIsStored, PlainIsStoredIn}

-- ---- numbers

-- members whose numbers are among these have none beyond them
within : (numbers : Numbers) (ms : Members) → fits_in numbers (object ms) ≡ true → members_exceed numbers ms ≡ false
within Whole ms fits = not_true (members_have_float ms) fits
within Any ms fits = refl

-- and members that have none beyond them have numbers among these
fitting : (numbers : Numbers) (ms : Members) → members_exceed numbers ms ≡ false → fits_in numbers (object ms) ≡ true
fitting Whole ms none = false_not (members_have_float ms) none
fitting Any ms none = refl

-- ---- plain, no fault

-- a plain version 3 group has no fault
pub no_fault_v3 : (numbers : Numbers) (m : GroupMetadataV3) → IsTrue (v3.is_plain_group_v3_in numbers m) → group_v3_fault_in numbers m ≡ None
no_fault_v3 numbers m plain =
    let parts = plain_group_v3_in numbers m plain in
    let f : members_exceed numbers m.attributes ≡ false = within numbers m.attributes parts.0 in
    let g : members_exceed numbers m.additional_fields ≡ false = within numbers m.additional_fields parts.1 in
    let a : get_member (codes "attributes") m.additional_fields ≡ None = get-others v3.group_v3_names (codes "attributes") m.additional_fields refl parts.2 in
    let n : get_member (codes "node_type") m.additional_fields ≡ None = get-others v3.group_v3_names (codes "node_type") m.additional_fields refl parts.2 in
    let z : get_member (codes "zarr_format") m.additional_fields ≡ None = get-others v3.group_v3_names (codes "zarr_format") m.additional_fields refl parts.2 in
    rw (f, g, a, parts.3, n, z) refl

-- a plain version 2 group has no fault
pub no_fault_v2 : (numbers : Numbers) (m : GroupMetadataV2) → IsTrue (v2.is_plain_group_v2_in numbers m) → group_v2_fault_in numbers m ≡ None
no_fault_v2 numbers m plain =
    let parts = plain_group_v2_in numbers m plain in
    let f : members_exceed numbers m.attributes ≡ false = within numbers m.attributes parts.0 in
    let g : members_exceed numbers m.additional_fields ≡ false = within numbers m.additional_fields parts.1 in
    let a : get_member (codes "attributes") m.additional_fields ≡ None = get-others v2.group_v2_names (codes "attributes") m.additional_fields refl parts.2 in
    let s : get_member (codes "shape") m.additional_fields ≡ None = get-others v2.group_v2_names (codes "shape") m.additional_fields refl parts.2 in
    let z : get_member (codes "zarr_format") m.additional_fields ≡ None = get-others v2.group_v2_names (codes "zarr_format") m.additional_fields refl parts.2 in
    rw (f, g, a, s, z) refl

-- ---- no fault, plain

-- without the fault of a number, neither part has one
neither_float : (a b : Bool) (o : Option MetadataFault) → (if a || b then Some UnsupportedNumber else o) ≡ None → (a ≡ false) × (b ≡ false)
neither_float false false o h = (refl, refl)
neither_float true b o h = cc
neither_float false true o h = cc

-- without a fault the numbers of a version 2 group are among these
pub fits_v2 : (numbers : Numbers) (m : GroupMetadataV2) → group_v2_fault_in numbers m ≡ None → (fits_in numbers (object m.attributes) ≡ true) × (fits_in numbers (object m.additional_fields) ≡ true)
fits_v2 numbers m h =
    let none = neither_float (members_exceed numbers m.attributes) (members_exceed numbers m.additional_fields) _ h in
    (fitting numbers m.attributes none.0, fitting numbers m.additional_fields none.1)

-- a member that is not found by order is another's, and not further on
by_order : (o : Ordering) (r : Option Data) (d : Data) → match_ordering o r (Some d) r ≡ None → (is_eq o ≡ false) × (r ≡ None)
by_order Less r d h = (refl, h)
by_order Equal r d h = cc
by_order Greater r d h = (refl, h)

-- a name that is absent is not the first, and not further on
absent_step : (n k : List ℕ) (d : Data) (ms : Members) → get_member n (member k d ms) ≡ None → (bytes_eq n k ≡ false) × (get_member n ms ≡ None)
absent_step n k d ms h =
    let both = by_order (slice_cmp nat_cmp n k) (get_member n ms) d h in
    (sym (is_eq-slice_cmp n k) ∙ both.0, both.1)

-- three names that are absent are no own names of the members
no_own : (a b c : List ℕ) (ms : Members) → get_member a ms ≡ None → get_member b ms ≡ None → get_member c ms ≡ None → has_own (a ∷ b ∷ c ∷ []) ms ≡ false
no_own a b c no_members ha hb hc = refl
no_own a b c (member k d ms) ha hb hc =
    let x = absent_step a k d ms ha in
    let y = absent_step b k d ms hb in
    let z = absent_step c k d ms hc in
    let p : bytes_eq a k ≡ false = x.0 in
    let q : bytes_eq b k ≡ false = y.0 in
    let r : bytes_eq c k ≡ false = z.0 in
    rw (p, q, r) (no_own a b c ms x.1 y.1 z.1)

-- what is not there is none
not_there : (o : Option Data) → is_some o ≡ false → o ≡ None
not_there None h = refl
not_there (Some d) h = cc

-- no name of four, so no test of four
four : (a b c d : Bool) (w x y z : List ℕ) → option_map BadMember (if a then Some w else if b then Some x else if c then Some y else if d then Some z else None) ≡ None
    → (a ≡ false) × (b ≡ false) × (c ≡ false) × (d ≡ false)
four true b c d w x y z h = cc
four false true c d w x y z h = cc
four false false true d w x y z h = cc
four false false false true w x y z h = cc
four false false false false w x y z h = (refl, refl, refl, refl)

-- no name of three, so no test of three
three : (a b c : Bool) (w x y : List ℕ) → option_map BadMember (if a then Some w else if b then Some x else if c then Some y else None) ≡ None → (a ≡ false) × (b ≡ false) × (c ≡ false)
three true b c w x y h = cc
three false true c w x y h = cc
three false false true w x y h = cc
three false false false w x y h = (refl, refl, refl)

-- without the fault of a number, the fault is that of the names
no_clash : (a b : Bool) (o : Option MetadataFault) → (if a || b then Some UnsupportedNumber else o) ≡ None → o ≡ None
no_clash false false o h = h
no_clash true b o h = cc
no_clash false true o h = cc

-- a version 3 group without a fault is plain
pub plain_v3 : (numbers : Numbers) (m : GroupMetadataV3) → group_v3_fault_in numbers m ≡ None → IsTrue (v3.is_plain_group_v3_in numbers m)
plain_v3 numbers m h =
    let ms : Members = m.additional_fields in
    let none = neither_float (members_exceed numbers m.attributes) (members_exceed numbers ms) _ h in
    let f : fits_in numbers (object m.attributes) ≡ true = fitting numbers m.attributes none.0 in
    let g : fits_in numbers (object ms) ≡ true = fitting numbers ms none.1 in
    let names = four (has_member (codes "attributes") ms) (is_null (get_member (codes "consolidated_metadata") ms)) (has_member (codes "node_type") ms) (has_member (codes "zarr_format") ms)
    (codes "attributes") (codes "consolidated_metadata") (codes "node_type") (codes "zarr_format") (no_clash (members_exceed numbers m.attributes) (members_exceed numbers ms) _ h) in
    let own : has_own v3.group_v3_names ms ≡ false = no_own (codes "zarr_format") (codes "node_type") (codes "attributes") ms (not_there _ names.3) (not_there _ names.2) (not_there _ names.0) in
    let block : is_null (get_member (codes "consolidated_metadata") ms) ≡ false = names.1 in
    rw (f, g, own, block) refl

-- a version 2 group without a fault is plain
pub plain_v2 : (numbers : Numbers) (m : GroupMetadataV2) → group_v2_fault_in numbers m ≡ None → IsTrue (v2.is_plain_group_v2_in numbers m)
plain_v2 numbers m h =
    let ms : Members = m.additional_fields in
    let fits = fits_v2 numbers m h in
    let f : fits_in numbers (object m.attributes) ≡ true = fits.0 in
    let g : fits_in numbers (object ms) ≡ true = fits.1 in
    let names = three (has_member (codes "attributes") ms) (has_member (codes "shape") ms) (has_member (codes "zarr_format") ms)
    (codes "attributes") (codes "shape") (codes "zarr_format") (no_clash (members_exceed numbers m.attributes) (members_exceed numbers ms) _ h) in
    let own : has_own v2.group_v2_names ms ≡ false = no_own (codes "zarr_format") (codes "shape") (codes "attributes") ms (not_there _ names.2) (not_there _ names.1) (not_there _ names.0) in
    rw (f, g, own) refl

-- a plain version 2 group is plain without its attributes
pub plain_without : (numbers : Numbers) (m : GroupMetadataV2) → IsTrue (v2.is_plain_group_v2_in numbers m) → IsTrue (v2.is_plain_group_v2_in numbers (group_without_attributes m))
plain_without numbers m plain =
    let parts = plain_group_v2_in numbers m plain in
    let e : fits_in numbers (object no_members) ≡ true = no_members_fit numbers in
    let f : fits_in numbers (object m.additional_fields) ≡ true = parts.1 in
    let o : has_own v2.group_v2_names m.additional_fields ≡ false = parts.2 in
    rw (e, f, o) refl

-- metadata have no fault in some numbers exactly where they are plain in them
pub plain_is_stored_in : (numbers : Numbers) → PlainIsStoredIn numbers
plain_is_stored_in numbers (V3 m) = (plain_v3 numbers m, no_fault_v3 numbers m)
plain_is_stored_in numbers (V2 m) = (plain_v2 numbers m, no_fault_v2 numbers m)

-- the same in whole numbers
pub plain_is_stored : PlainIsStored
plain_is_stored m = plain_is_stored_in Whole m

-- metadata without a fault in whole numbers have none in any
pub no_fault_more : (numbers : Numbers) (m : GroupMetadata) → group_fault_in Whole m ≡ None → group_fault_in numbers m ≡ None
no_fault_more Whole m none = none
no_fault_more Any (V3 m) none = no_clash (members_have_float m.attributes) (members_have_float m.additional_fields) _ none
no_fault_more Any (V2 m) none = no_clash (members_have_float m.attributes) (members_have_float m.additional_fields) _ none

-- the document of metadata without a fault has no float
pub no_float_group : (m : GroupMetadata) → group_fault_in Whole m ≡ None → has_float (group_tree m) ≡ false
no_float_group (V3 m) h = group_v3_no_float m (plain_v3 Whole m h)
no_float_group (V2 m) h = group_v2_no_float m (plain_v2 Whole m h)
