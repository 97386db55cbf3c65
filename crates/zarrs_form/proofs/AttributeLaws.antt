-- What holds of the member `attributes`, which is written unless it is empty.
use Rattle.std.proofs.Common.{◌≡◌, Bool, true, false, not, None, Ok, codes, refl, sym}
use Rattle.serde_json.specs.Data.{object, Members, no_members, member}
use Rattle.serde_json.specs.Find.{as_object}
use Rattle.serde_json.specs.Written.{members_have_float}
use Rattle.zarrs_form.specs.Documents.{is_empty, optional_found}
use Rattle.zarrs_form.specs.Forms.{fits, unless}
use Rattle.zarrs_form.proofs.RowLaws.{or_rest, has_no_float}

-- what is not true is false
pub not_true : (b : Bool) → not b ≡ true → b ≡ false
not_true true e = sym e
not_true false e = refl

-- attributes that were written read again, and those that were not written read as empty
pub attributes_again : (ms : Members) → optional_found (codes "attributes") no_members as_object (or_rest (unless (is_empty ms) (object ms)) None) ≡ Ok ms
attributes_again no_members = refl
attributes_again (member k d ms) = refl

-- attributes whose numbers fit are written with numbers that fit
pub attributes_no_float : (ms : Members) → fits (object ms) ≡ true → has_no_float (unless (is_empty ms) (object ms))
attributes_no_float no_members e = tt
attributes_no_float (member k d ms) e = not_true (members_have_float (member k d ms)) e
