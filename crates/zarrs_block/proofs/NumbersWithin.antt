-- Documents within a larger one, whose numbers were tested with it: the numbers of each part are among those of the whole.
use Rattle.std.proofs.Common.{◌≡◌, ℕ, List, ◌∷◌, false, not, if◌then◌else◌, Some, Ok, Err, IfSome, IsTrue, codes, refl, ap, subst}
use Rattle.std.proofs.lemmas.Bool.{not-true}
use Rattle.serde_json.specs.Data.{Data, object, Members}
use Rattle.serde_json.specs.Find.{get_member, as_object}
use Rattle.serde_json.specs.View.{view, members_view}
use Rattle.serde_json.specs.Written.{has_float, members_have_float}
use Rattle.serde_json.proofs.Views.{Entry}
use Rattle.zarrs_fault.specs.declared.fault.MetadataFault.TheVariants.{UnsupportedNumber}
use Rattle.zarrs_fault.specs.declared.numbers.Numbers.{Numbers}
use Rattle.zarrs_fault.specs.declared.numbers.Numbers.TheVariants.{Whole, Any}
use Rattle.zarrs_form.specs.Documents.{document_in, object_of, required_member}
use Rattle.zarrs_form.specs.Forms.{fits_in}
use Rattle.zarrs_form.proofs.MemberLaws.{neither}
use Rattle.zarrs_form.proofs.PlainForms.{IsDocument, document_fits, member_fits_in, object_fitting, required_fits, of_ok}

-- a document whose numbers are among these is read as any object
pub asked_document : (numbers : Numbers) (d : Data) → IsTrue (fits_in numbers d) → document_in numbers d ≡ object_of d
asked_document Whole d fits = ap (λ b. if b then Err UnsupportedNumber else object_of d) (not-true (has_float d) fits)
asked_document Any d fits = refl

-- the numbers of the first of some members are among these where those of all are, and so are those of the others
pub fits_first : (numbers : Numbers) (left : List Entry) (e : Entry) (es : List Entry) → left ≡ e ∷ es → IsTrue (fits_in numbers (object (members_view left)))
    → IsTrue (fits_in numbers (view e.1)) × IsTrue (fits_in numbers (object (members_view es)))
fits_first Whole left e es is fits =
    let none = subst (λ xs. members_have_float (members_view xs) ≡ false) is (not-true (members_have_float (members_view left)) fits) in
    let parts = neither (has_float (view e.1)) (members_have_float (members_view es)) none in
    (ap not parts.0, ap not parts.1)
fits_first Any left e es is fits = (refl, refl)

-- those of the members of an object at a name are, where those of the object that has it are
pub fits_at : (numbers : Numbers) (name : List ℕ) (ms : Members) (d : Data) (ns : Members) → IsTrue (fits_in numbers (object ms)) → get_member name ms ≡ Some d → as_object d ≡ Some ns
    → IsTrue (fits_in numbers (object ns))
fits_at numbers name ms d ns fits at is =
    let own = subst (λ o. IfSome o (λ e. IsTrue (fits_in numbers e))) at (member_fits_in numbers name ms fits) in
    subst (λ o. IfSome o (λ xs. IsTrue (fits_in numbers (object xs)))) is (object_fitting numbers d own)

-- so are those of the members that a document has to have
pub fits_within : (numbers : Numbers) (ms ns : Members) → document_in numbers (object ms) ≡ Ok ms → required_member (codes "metadata") as_object (object ms) ≡ Ok ns → IsTrue (fits_in numbers (object ns))
fits_within numbers ms ns reads is =
    let whole = of_ok (IsDocument numbers (object ms)) (document_in numbers (object ms)) ms (document_fits numbers (object ms)) reads in
    of_ok (λ xs. IsTrue (fits_in numbers (object xs))) (required_member (codes "metadata") as_object (object ms)) ns
    (required_fits numbers as_object (λ xs. fits_in numbers (object xs)) (object_fitting numbers) (codes "metadata") (object ms) whole.1) is
