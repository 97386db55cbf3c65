-- No step of reading a document means out of memory: what it refuses with is never that fault.
use Rattle.std.proofs.Common.{◌≡◌, ◌≢◌, ℕ, List, Bool, true, false, if◌then◌else◌, Option, Some, None, Result, Ok, Err}
use Rattle.serde_json.specs.Data.{Data}
use Rattle.serde_json.specs.Find.{get}
use Rattle.zarrs_form.specs.Documents.{◌>>=◌, NeverLacksMemory, json_of, tree_or_fault, of_bytes, format_of, node_type_of, member_or_fault, form_or_fault, required_member, optional_found, optional_member}
use Rattle.zarrs_fault.specs.declared.fault.MetadataFault.{MetadataFault}
use Rattle.zarrs_fault.specs.declared.fault.MetadataFault.TheVariants.{WrongFormat, WrongNodeType, BadMember, OutOfMemory}

-- ---- steps

-- two steps that are never out of memory never are together
both_never : {A B : Type 0} (r : Result A MetadataFault) (f : A → Result B MetadataFault) → NeverLacksMemory r → ((x : A) → NeverLacksMemory (f x)) → NeverLacksMemory (r >>= f)
both_never (Ok x) f h g = g x
both_never (Err fault) f h g = λ e. h (let same : fault ≡ OutOfMemory = cc in cc)

-- ---- the steps of reading a document

-- no bytes are out of memory
parsed_never : (o : Option Data) → NeverLacksMemory (tree_or_fault o)
parsed_never None e = cc
parsed_never (Some d) e = cc

-- a question is refused only with its own fault
asked : (b : Bool) (fault : MetadataFault) → fault ≢ OutOfMemory → NeverLacksMemory {A = Unit {0}} (if b then Ok tt else Err fault)
asked true fault other e = cc
asked false fault other e = other (let same : fault ≡ OutOfMemory = cc in same)

-- the format of a document
pub format_never : (n : ℕ) (d : Data) → NeverLacksMemory (format_of n d)
unfolding format_of
format_never n d = asked _ WrongFormat (λ e. cc)

-- the kind of a document
pub node_type_never : (t : List ℕ) (d : Data) → NeverLacksMemory (node_type_of t d)
unfolding node_type_of
node_type_never t d = asked _ WrongNodeType (λ e. cc)

-- a form is refused only with the name of the member
formed_never : {A : Type 0} (name : List ℕ) (o : Option A) → NeverLacksMemory (form_or_fault name o)
formed_never name None e = cc
formed_never name (Some x) e = cc

-- a member that has to be there, by what was found
required_from : {A : Type 0} (form : Data → Option A) (name : List ℕ) (o : Option Data) → NeverLacksMemory (member_or_fault name o >>= λ v. form_or_fault name (form v))
required_from form name None e = cc
required_from form name (Some d) e = formed_never name (form d) e

-- a member that has to be there
pub required_never : {A : Type 0} (form : Data → Option A) (name : List ℕ) (d : Data) → NeverLacksMemory (required_member name form d)
required_never form name d = required_from form name (get name d)

-- a member that may be absent, by what was found
optional_never_from : {A : Type 0} (base : A) (form : Data → Option A) (name : List ℕ) (o : Option Data) → NeverLacksMemory (optional_found name base form o)
optional_never_from base form name None e = cc
optional_never_from base form name (Some d) e = formed_never name (form d) e

-- a member that may be absent
pub optional_never : {A : Type 0} (base : A) (form : Data → Option A) (name : List ℕ) (d : Data) → NeverLacksMemory (optional_member name base form d)
optional_never base form name d = optional_never_from base form name (get name d)

-- a member that must not be there, by what was found
pub absent_by : (o : Option Data) (name : List ℕ) → NeverLacksMemory {A = Unit {0}} (elim o [ None ↦ Ok tt | Some d ↦ Err (BadMember name) ])
absent_by None name e = cc
absent_by (Some d) name e = cc

-- bytes that are read as a document
pub bytes_never : {A : Type 0} (reading : Data → Result A MetadataFault) → ((d : Data) → NeverLacksMemory (reading d)) → (bytes : List ℕ) → NeverLacksMemory (of_bytes reading bytes)
bytes_never reading never bytes = both_never (tree_or_fault (json_of bytes)) reading (parsed_never (json_of bytes)) never
