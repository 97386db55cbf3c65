-- What is read of data whose numbers are among some: so are those of its parts, and of each value that a form gives.
use Rattle.std.proofs.Common.{◌≡◌, ℕ, List, ◌∷◌, Bool, true, false, not, ◌&&◌, ◌||◌, if◌then◌else◌, Less, Equal, Greater, Ordering, Option, Some, None, Result, Ok, Err, option_map, nat_cmp, refl, ap, ◌∙◌, subst}
use Rattle.std.specs.Prelude.{◌≢◌, IfSome, MatchResult}
use Rattle.std.specs.Ordering.{match_ordering}
use Rattle.std.specs.List.{list_all}
use Rattle.std.specs.Cmp.Lexicographic.{slice_cmp}
use Rattle.serde_json.specs.Data.{unsigned, negative, float, Data, null, boolean, number, string, array, object, Items, no_items, item, Members, no_members, member}
use Rattle.serde_json.specs.Find.{get, get_member, as_object}
use Rattle.serde_json.specs.Written.{has_float, items_have_float, members_have_float}
use Rattle.zarrs_form.specs.Documents as documents
use Rattle.zarrs_form.specs.Documents.{NeverLacksMemory, is_own, besides, has_own, member_or_fault, form_or_fault, required_member, optional_found, optional_member, document_in}
use Rattle.zarrs_form.specs.Forms as forms
use Rattle.zarrs_form.specs.Forms.{any, nullable, each, list_of, none_or, fits_in, unless_absent}
use Rattle.zarrs_fault.specs.declared.fault.MetadataFault.{MetadataFault}
use Rattle.zarrs_fault.specs.declared.fault.MetadataFault.TheVariants.{NotAnObject, OutOfMemory, UnsupportedNumber}
use Rattle.zarrs_fault.specs.declared.numbers.Numbers.{Numbers}
use Rattle.zarrs_fault.specs.declared.numbers.Numbers.TheVariants.{Whole, Any}
use Rattle.zarrs_form.proofs.MemberLaws.{neither}
use Rattle.zarrs_form.proofs.AttributeLaws.{not_true}

-- ---- steps that give a value, or none, or a fault

-- a step of a form whose value has P, and then one whose value has Q
pub some_then : {A B : Type 0} (P : A → Type 0) (Q : B → Type 0) (o : Option A) (f : A → Option B) → IfSome o P → ((x : A) → P x → IfSome (f x) Q) → IfSome (forms.◌>>=◌ o f) Q
some_then P Q None f h g = tt
some_then P Q (Some x) f h g = g x h

-- the same, where nothing is known of the first step's value
pub some_next : {A B : Type 0} (Q : B → Type 0) (o : Option A) (f : A → Option B) → ((x : A) → IfSome (f x) Q) → IfSome (forms.◌>>=◌ o f) Q
some_next Q None f g = tt
some_next Q (Some x) f g = g x

-- the value under a function
pub some_map : {A B : Type 0} (P : A → Type 0) (Q : B → Type 0) (f : A → B) (o : Option A) → IfSome o P → ((x : A) → P x → Q (f x)) → IfSome (option_map f o) Q
some_map P Q f None h g = tt
some_map P Q f (Some x) h g = g x h

-- reading gives a value that has P, or a fault that is not out of memory
abbrev pub Reads : {A : Type 0} → Result A MetadataFault → (A → Type 0) → Type 0
Reads r P = MatchResult r P (λ fault. fault ≢ OutOfMemory)

-- a step of a document whose value has P, and then one whose value has Q
pub ok_then : {A B : Type 0} (P : A → Type 0) (Q : B → Type 0) (r : Result A MetadataFault) (f : A → Result B MetadataFault) → Reads r P → ((x : A) → P x → Reads (f x) Q) → Reads (documents.◌>>=◌ r f) Q
ok_then P Q (Ok x) f h g = g x h
ok_then P Q (Err fault) f h g = h

-- the same, where nothing is known of the first step's value
pub ok_next : {A B : Type 0} (Q : B → Type 0) (r : Result A MetadataFault) (f : A → Result B MetadataFault) → NeverLacksMemory r → ((x : A) → Reads (f x) Q) → Reads (documents.◌>>=◌ r f) Q
ok_next Q (Ok x) f h g = g x
ok_next Q (Err fault) f h g = λ same. h (ap Err same)

-- what holds of the value that there may be holds of that value
pub of_ok : {A : Type 0} (P : A → Type 0) (r : Result A MetadataFault) (x : A) → Reads r P → r ≡ Ok x → P x
of_ok P (Ok y) x h e = let same : y ≡ x = cc in subst P same h
of_ok P (Err y) x h e = cc

-- such a reading never means out of memory
pub never_of : {A : Type 0} (P : A → Type 0) (r : Result A MetadataFault) → Reads r P → NeverLacksMemory r
never_of P (Ok x) h e = cc
never_of P (Err fault) h e = h (let same : fault ≡ OutOfMemory = cc in same)

-- two tests that are true are true together
pub both_true : (a b : Bool) → a ≡ true → b ≡ true → (a && b) ≡ true
both_true a b e f = rw (e, f) refl

-- what is false is not true
pub false_not : (b : Bool) → b ≡ false → not b ≡ true
false_not b e = ap not e

-- ---- numbers of parts

-- where the first has P, and so has what was found in the others, what is found has it
found_has : (P : Data → Type 0) (o : Ordering) (d : Data) (rest : Option Data) → P d → IfSome rest P → IfSome (match_ordering o rest (Some d) rest) P
found_has P Less d rest h hs = hs
found_has P Equal d rest h hs = h
found_has P Greater d rest h hs = hs

-- the numbers of members are those of the first and of the others
member_parts : (numbers : Numbers) (k : List ℕ) (d : Data) (ms : Members) → fits_in numbers (object (member k d ms)) ≡ true → (fits_in numbers d ≡ true) × (fits_in numbers (object ms) ≡ true)
member_parts Whole k d ms h =
    let parts = neither (has_float d) (members_have_float ms) (not_true (has_float d || members_have_float ms) h) in
    (false_not (has_float d) parts.0, false_not (members_have_float ms) parts.1)
member_parts Any k d ms h = (refl, refl)

-- the numbers of items are those of the first and of the others
item_parts : (numbers : Numbers) (d : Data) (ds : Items) → fits_in numbers (array (item d ds)) ≡ true → (fits_in numbers d ≡ true) × (fits_in numbers (array ds) ≡ true)
item_parts Whole d ds h =
    let parts = neither (has_float d) (items_have_float ds) (not_true (has_float d || items_have_float ds) h) in
    (false_not (has_float d) parts.0, false_not (items_have_float ds) parts.1)
item_parts Any d ds h = (refl, refl)

-- a member of members whose numbers are among these
pub member_fits_in : (numbers : Numbers) (k : List ℕ) (ms : Members) → fits_in numbers (object ms) ≡ true → IfSome (get_member k ms) (λ e. fits_in numbers e ≡ true)
member_fits_in numbers k no_members h = tt
member_fits_in numbers k (member l d ms) h =
    let parts = member_parts numbers l d ms h in
    found_has (λ e. fits_in numbers e ≡ true) (slice_cmp nat_cmp k l) d (get_member k ms) parts.0 (member_fits_in numbers k ms parts.1)

-- a member of data whose numbers are among these
pub get_fits : (numbers : Numbers) (k : List ℕ) (d : Data) → fits_in numbers d ≡ true → IfSome (get k d) (λ e. fits_in numbers e ≡ true)
get_fits numbers k null h = tt
get_fits numbers k (boolean b) h = tt
get_fits numbers k (number n) h = tt
get_fits numbers k (string s) h = tt
get_fits numbers k (array ds) h = tt
get_fits numbers k (object ms) h = member_fits_in numbers k ms h

-- a member that fits may be kept or left out
no_float_kept : (b : Bool) (k : List ℕ) (d : Data) (ms : Members) → has_float d ≡ false → members_have_float ms ≡ false → members_have_float (if b then ms else member k d ms) ≡ false
no_float_kept true k d ms h hs = hs
no_float_kept false k d ms h hs = rw (h, hs) refl

-- members that are kept of members whose numbers fit
pub no_float-besides : (names : List (List ℕ)) (ms : Members) → members_have_float ms ≡ false → members_have_float (besides names ms) ≡ false
no_float-besides names no_members h = refl
no_float-besides names (member k d ms) h =
    let parts = neither (has_float d) (members_have_float ms) h in
    no_float_kept (is_own names k) k d (besides names ms) parts.0 (no_float-besides names ms parts.1)

-- members that are kept of members whose numbers are among these
pub fits-besides : (numbers : Numbers) (names : List (List ℕ)) (ms : Members) → fits_in numbers (object ms) ≡ true → fits_in numbers (object (besides names ms)) ≡ true
fits-besides Whole names ms h = false_not (members_have_float (besides names ms)) (no_float-besides names ms (not_true (members_have_float ms) h))
fits-besides Any names ms h = refl

-- no members have no number
pub no_members_fit : (numbers : Numbers) → fits_in numbers (object no_members) ≡ true
no_members_fit Whole = refl
no_members_fit Any = refl

-- ---- names of members that are kept

-- a member is kept only where its name is none of the names
own_kept : (names : List (List ℕ)) (b : Bool) (k : List ℕ) (d : Data) (ms : Members) → (b ≡ false → is_own names k ≡ false) → has_own names ms ≡ false → has_own names (if b then ms else member k d ms) ≡ false
own_kept names true k d ms other h = h
own_kept names false k d ms other h = rw (other refl, h) refl

-- members that have none of some names have none of fewer names
pub none_own : (fewer names : List (List ℕ)) → ((k : List ℕ) → is_own names k ≡ false → is_own fewer k ≡ false) → (ms : Members) → has_own fewer (besides names ms) ≡ false
none_own fewer names among no_members = refl
none_own fewer names among (member k d ms) = own_kept fewer (is_own names k) k d (besides names ms) (among k) (none_own fewer names among ms)

-- members that are kept have none of the names
pub no_own-besides : (names : List (List ℕ)) (ms : Members) → has_own names (besides names ms) ≡ false
no_own-besides names ms = none_own names names (λ k other. other) ms

-- ---- forms

-- the form gives values that pass the test, of data whose numbers are among these
abbrev pub Fitting : {A : Type 0} → Numbers → (Data → Option A) → (A → Bool) → Type 0
Fitting numbers form test = (d : Data) → fits_in numbers d ≡ true → IfSome (form d) (λ x. test x ≡ true)

-- an object is kept with its numbers
pub object_fitting : (numbers : Numbers) → Fitting numbers as_object (λ ms. fits_in numbers (object ms))
object_fitting numbers null h = tt
object_fitting numbers (boolean b) h = tt
object_fitting numbers (number n) h = tt
object_fitting numbers (string s) h = tt
object_fitting numbers (array ds) h = tt
object_fitting numbers (object ms) h = h

-- any value is kept with its numbers
pub any_fitting : (numbers : Numbers) → Fitting numbers any (λ d. fits_in numbers d)
any_fitting numbers d h = h

-- null counts as absent
pub nullable_fitting : {A : Type 0} (numbers : Numbers) (form : Data → Option A) (test : A → Bool) → Fitting numbers form test → Fitting numbers (nullable form) (none_or test)
nullable_fitting numbers form test fitting null h = refl
nullable_fitting numbers form test fitting (boolean b) h = some_map (λ x. test x ≡ true) (λ o. none_or test o ≡ true) Some (form (boolean b)) (fitting (boolean b) h) (λ x e. e)
nullable_fitting numbers form test fitting (number n) h = some_map (λ x. test x ≡ true) (λ o. none_or test o ≡ true) Some (form (number n)) (fitting (number n) h) (λ x e. e)
nullable_fitting numbers form test fitting (string s) h = some_map (λ x. test x ≡ true) (λ o. none_or test o ≡ true) Some (form (string s)) (fitting (string s) h) (λ x e. e)
nullable_fitting numbers form test fitting (array ds) h = some_map (λ x. test x ≡ true) (λ o. none_or test o ≡ true) Some (form (array ds)) (fitting (array ds) h) (λ x e. e)
nullable_fitting numbers form test fitting (object ms) h = some_map (λ x. test x ≡ true) (λ o. none_or test o ≡ true) Some (form (object ms)) (fitting (object ms) h) (λ x e. e)

-- each item of items whose numbers are among these
each_fits : {A : Type 0} (numbers : Numbers) (form : Data → Option A) (test : A → Bool) → Fitting numbers form test → (ds : Items) → fits_in numbers (array ds) ≡ true → IfSome (each form ds) (λ xs. list_all test xs ≡ true)
each_fits numbers form test fitting no_items h = refl
each_fits numbers form test fitting (item d ds) h =
    let parts = item_parts numbers d ds h in
    some_then (λ x. test x ≡ true) (λ xs. list_all test xs ≡ true) (form d) (λ x. forms.◌>>=◌ (each form ds) (λ xs. Some (x ∷ xs))) (fitting d parts.0) (λ x here.
    some_then (λ xs. list_all test xs ≡ true) (λ xs. list_all test xs ≡ true) (each form ds) (λ xs. Some (x ∷ xs)) (each_fits numbers form test fitting ds parts.1) (λ xs later.
    both_true (test x) (list_all test xs) here later))

-- a list of values
pub list_fitting : {A : Type 0} (numbers : Numbers) (form : Data → Option A) (test : A → Bool) → Fitting numbers form test → Fitting numbers (list_of form) (list_all test)
list_fitting numbers form test fitting null h = tt
list_fitting numbers form test fitting (boolean b) h = tt
list_fitting numbers form test fitting (number n) h = tt
list_fitting numbers form test fitting (string s) h = tt
list_fitting numbers form test fitting (array ds) h = each_fits numbers form test fitting ds h
list_fitting numbers form test fitting (object ms) h = tt

-- a member of an object that may be absent
pub absent_fits : {A : Type 0} (numbers : Numbers) (absent : A) (form : Data → Option A) (test : A → Bool) → Fitting numbers form test → test absent ≡ true → (o : Option Data) → IfSome o (λ d. fits_in numbers d ≡ true)
    → IfSome (unless_absent absent form o) (λ x. test x ≡ true)
absent_fits numbers absent form test fitting base None h = base
absent_fits numbers absent form test fitting base (Some d) h = fitting d h

-- ---- members of documents

-- the value of a form, or the fault that names the member
formed_fits : {A : Type 0} (P : A → Type 0) (name : List ℕ) (o : Option A) → IfSome o P → Reads (form_or_fault name o) P
formed_fits P name None h = λ e. cc
formed_fits P name (Some x) h = h

-- a member that has to be there, by what was found
required_from : {A : Type 0} (numbers : Numbers) (form : Data → Option A) (test : A → Bool) → Fitting numbers form test → (name : List ℕ) (o : Option Data) → IfSome o (λ d. fits_in numbers d ≡ true)
    → Reads (documents.◌>>=◌ (member_or_fault name o) (λ v. form_or_fault name (form v))) (λ x. test x ≡ true)
required_from numbers form test fitting name None h = λ e. cc
required_from numbers form test fitting name (Some d) h = formed_fits (λ x. test x ≡ true) name (form d) (fitting d h)

-- a member that has to be there
pub required_fits : {A : Type 0} (numbers : Numbers) (form : Data → Option A) (test : A → Bool) → Fitting numbers form test → (name : List ℕ) (d : Data) → fits_in numbers d ≡ true
    → Reads (required_member name form d) (λ x. test x ≡ true)
required_fits numbers form test fitting name d h = required_from numbers form test fitting name (get name d) (get_fits numbers name d h)

-- a member that may be absent, by what was found
optional_from : {A : Type 0} (numbers : Numbers) (absent : A) (form : Data → Option A) (test : A → Bool) → Fitting numbers form test → test absent ≡ true
    → (name : List ℕ) (o : Option Data) → IfSome o (λ d. fits_in numbers d ≡ true) → Reads (optional_found name absent form o) (λ x. test x ≡ true)
optional_from numbers absent form test fitting base name None h = base
optional_from numbers absent form test fitting base name (Some d) h = formed_fits (λ x. test x ≡ true) name (form d) (fitting d h)

-- a member that may be absent
pub optional_fits : {A : Type 0} (numbers : Numbers) (absent : A) (form : Data → Option A) (test : A → Bool) → Fitting numbers form test → test absent ≡ true → (name : List ℕ) (d : Data) → fits_in numbers d ≡ true
    → Reads (optional_member name absent form d) (λ x. test x ≡ true)
optional_fits numbers absent form test fitting base name d h = optional_from numbers absent form test fitting base name (get name d) (get_fits numbers name d h)

-- ---- documents

-- a document that may hold these numbers is an object whose numbers are among them
abbrev pub IsDocument : Numbers → Data → Members → Type 0
IsDocument numbers d ms = (d ≡ object ms) × (fits_in numbers (object ms) ≡ true)

-- what is no object has no members, whatever its numbers
refused_by : (b : Bool) (P : Members → Type 0) → Reads (if b then Err UnsupportedNumber else Err NotAnObject) P
refused_by true P = λ e. cc
refused_by false P = λ e. cc

-- an object has members where its numbers fit
object_by : (b : Bool) (ms : Members) → members_have_float ms ≡ b → Reads (if b then Err UnsupportedNumber else Ok ms) (IsDocument Whole (object ms))
object_by true ms e = λ same. cc
object_by false ms e = (refl, false_not (members_have_float ms) e)

-- the members of a document are those of an object whose numbers are among these
pub document_fits : (numbers : Numbers) (d : Data) → Reads (document_in numbers d) (IsDocument numbers d)
document_fits Whole null = λ e. cc
document_fits Whole (boolean b) = λ e. cc
document_fits Whole (number (unsigned n)) = λ e. cc
document_fits Whole (number (negative z)) = λ e. cc
document_fits Whole (number (float x)) = λ e. cc
document_fits Whole (string s) = λ e. cc
document_fits Whole (array ds) = refused_by (items_have_float ds) (IsDocument Whole (array ds))
document_fits Whole (object ms) = object_by (members_have_float ms) ms refl
document_fits Any null = λ e. cc
document_fits Any (boolean b) = λ e. cc
document_fits Any (number n) = λ e. cc
document_fits Any (string s) = λ e. cc
document_fits Any (array ds) = λ e. cc
document_fits Any (object ms) = (refl, refl)

-- the numbers of a document are among these
pub document_numbers : (numbers : Numbers) (d : Data) (ms : Members) → IsDocument numbers d ms → fits_in numbers d ≡ true
document_numbers numbers d ms h = ap (fits_in numbers) h.0 ∙ h.1
