-- Zarr core specification 3.1, "Metadata documents", and specification version 2, "Metadata": how documents are read,
-- each step answering its value or the first fault.
-- <https://zarr-specs.readthedocs.io/en/latest/v3/core/index.html#metadata>
-- <https://zarr-specs.readthedocs.io/en/latest/v2/v2.0.html#metadata>
use Rattle.std.specs.Prelude.{◌≡◌, ◌≢◌, ◌==◌, ℕ, List, [], ◌∷◌, Bool, true, false, bytes_eq, ◌||◌, if◌then◌else◌}
use Rattle.std.specs.Prelude.{Option, Some, None, Result, Ok, Err, codes, option_and_then, is_some}
use Rattle.std.specs.List.{list_any}
use Rattle.std.specs.Str.{is_utf8}
use Rattle.serde_json.specs.Read.{read}
use Rattle.serde_json.specs.Data.{Data, object, Members, no_members, member}
use Rattle.serde_json.specs.Find.{get, get_member, as_null, as_number, as_u64, as_str}
use Rattle.serde_json.specs.Written.{has_float}
use Rattle.zarrs_fault.specs.declared.fault.MetadataFault.{MetadataFault}
use Rattle.zarrs_fault.specs.declared.numbers.Numbers.{Numbers}
use Rattle.zarrs_fault.specs.declared.numbers.Numbers.TheVariants.{Whole, Any}
use Rattle.zarrs_fault.specs.declared.fault.MetadataFault.TheVariants.{NotJson, UnsupportedNumber, NotAnObject}
use Rattle.zarrs_fault.specs.declared.fault.MetadataFault.TheVariants.{WrongFormat, WrongNodeType, MissingMember}
use Rattle.zarrs_fault.specs.declared.fault.MetadataFault.TheVariants.{BadMember, OutOfMemory}

infixl 10 ◌>>=◌
-- a step, and the next where it answered a value
abbrev pub ◌>>=◌ : {A B : Type 0} → Result A MetadataFault → (A → Result B MetadataFault) → Result B MetadataFault
(Ok x) >>= f = f x
(Err e) >>= f = Err e

-- a refusal is the fault of the reading, unless memory ran out
abbrev pub Refuses : {B : Type 0} → MetadataFault → Result B MetadataFault → Type 0
Refuses OutOfMemory reading = Unit {0}
Refuses fault reading = reading ≡ Err fault

-- a function answers what the reading gives: its value as it is seen, or its fault, and out of memory says nothing
abbrev pub Gives : {A B : Type 0} → (A → B) → Result A MetadataFault → Result B MetadataFault → Type 0
Gives see (Ok x) reading = reading ≡ Ok (see x)
Gives see (Err fault) reading = Refuses fault reading

-- the tree that the bytes are, where they are JSON text
unfoldable pub json_of : List ℕ → Option Data
json_of bytes = if is_utf8 bytes then read bytes else None

-- what is no JSON text is the fault `NotJson`
abbrev pub tree_or_fault : Option Data → Result Data MetadataFault
tree_or_fault None = Err NotJson
tree_or_fault (Some d) = Ok d

-- what bytes mean: the document that their tree is
abbrev pub of_bytes : {A : Type 0} → (Data → Result A MetadataFault) → List ℕ → Result A MetadataFault
of_bytes document bytes = tree_or_fault (json_of bytes) >>= document

-- the members of an object
abbrev pub object_of : Data → Result Members MetadataFault
object_of (object ms) = Ok ms
object_of _ = Err NotAnObject

-- the members of a document that may hold these numbers: it holds no other, and it is an object
abbrev pub document_in : Numbers → Data → Result Members MetadataFault
document_in Whole d = if has_float d then Err UnsupportedNumber else object_of d
document_in Any d = object_of d

-- the members of a document whose numbers are whole
abbrev pub document_of : Data → Result Members MetadataFault
document_of d = document_in Whole d

-- there is a number, and it is this one
abbrev is_number : ℕ → Option ℕ → Bool
is_number n None = false
is_number n (Some m) = m == n

-- there is a text, and it is this one
abbrev is_text : List ℕ → Option (List ℕ) → Bool
is_text t None = false
is_text t (Some s) = bytes_eq s t

-- `zarr_format` is this number
unfoldable pub format_of : ℕ → Data → Result (Unit {0}) MetadataFault
format_of n d =
    if is_number n (option_and_then as_u64 (option_and_then as_number (get (codes "zarr_format") d))) then Ok tt
    else Err WrongFormat

-- `node_type` is this text
unfoldable pub node_type_of : List ℕ → Data → Result (Unit {0}) MetadataFault
node_type_of t d = if is_text t (option_and_then as_str (get (codes "node_type") d)) then Ok tt else Err WrongNodeType

-- a value of the form, where the data have it
abbrev pub form_or_fault : {A : Type 0} → List ℕ → Option A → Result A MetadataFault
form_or_fault name None = Err (BadMember name)
form_or_fault name (Some x) = Ok x

-- a member that is there
abbrev pub member_or_fault : List ℕ → Option Data → Result Data MetadataFault
member_or_fault name None = Err (MissingMember name)
member_or_fault name (Some d) = Ok d

-- what was found has the form; where nothing was found it is the value for absent
abbrev pub optional_found : {A : Type 0} → List ℕ → A → (Data → Option A) → Option Data → Result A MetadataFault
optional_found name otherwise form None = Ok otherwise
optional_found name otherwise form (Some d) = form_or_fault name (form d)

-- what must not be found
abbrev no_member_found : List ℕ → Option Data → Result (Unit {0}) MetadataFault
no_member_found name None = Ok tt
no_member_found name (Some d) = Err (BadMember name)

-- a member that must not be there
abbrev pub no_member : List ℕ → Data → Result (Unit {0}) MetadataFault
no_member name d = no_member_found name (get name d)

-- a member that has to be there, of the form
abbrev pub required_member : {A : Type 0} → List ℕ → (Data → Option A) → Data → Result A MetadataFault
required_member name form d = member_or_fault name (get name d) >>= λ v. form_or_fault name (form v)

-- a member that may be absent, of the form
abbrev pub optional_member : {A : Type 0} → List ℕ → A → (Data → Option A) → Data → Result A MetadataFault
optional_member name otherwise form d = optional_found name otherwise form (get name d)

-- the name is one of the names
abbrev pub is_own : List (List ℕ) → List ℕ → Bool
is_own names name = list_any (λ n. bytes_eq n name) names

-- the members that have none of the names
abbrev pub besides : List (List ℕ) → Members → Members
besides names no_members = no_members
besides names (member k d ms) = if is_own names k then besides names ms else member k d (besides names ms)

-- some member has one of the names
abbrev pub has_own : List (List ℕ) → Members → Bool
has_own names no_members = false
has_own names (member k d ms) = is_own names k || has_own names ms

-- something was found, and it is null
abbrev pub is_null : Option Data → Bool
is_null found = is_some (option_and_then as_null found)

-- the members but for one of this name that is null
abbrev pub besides_null : List ℕ → Members → Members
besides_null name ms = if is_null (get_member name ms) then besides (name ∷ []) ms else ms

-- what is no object of such numbers has that fault, whatever document it is read as
abbrev pub AsksFirst : {A : Type 0} → (Numbers → Data → Result A MetadataFault) → Type 0
AsksFirst meaning = (numbers : Numbers) (d : Data) (fault : MetadataFault)
    → document_in numbers d ≡ Err fault → meaning numbers d ≡ Err fault

-- what reading gives is not out of memory
abbrev pub NeverLacksMemory : {A : Type 0} → Result A MetadataFault → Type 0
NeverLacksMemory reading = reading ≢ Err OutOfMemory

-- ---- the written form

-- the object has no member
abbrev pub is_empty : Members → Bool
is_empty no_members = true
is_empty (member k d ms) = false
