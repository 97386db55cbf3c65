-- Zarr core specification 3.1, "Array metadata" and "Extension definition": the forms of members, each the value that
-- the data stand for, or none where they have another form.
-- <https://zarr-specs.readthedocs.io/en/latest/v3/core/index.html#array-metadata>
-- <https://zarr-specs.readthedocs.io/en/latest/v3/core/index.html#extension-definition>
use Rattle.std.specs.Prelude.{ℕ, List, [], ◌∷◌, Bool, true, false, not, ◌&&◌, if◌then◌else◌, is_none, Option, Some}
use Rattle.std.specs.Prelude.{None, option_map, option_and_then, codes, map}
use Rattle.serde_json.specs.Data.{Data, null, boolean, number, string, array, object, Items, no_items, item, Members}
use Rattle.serde_json.specs.Data.{no_members, unsigned, put}
use Rattle.serde_json.specs.Written.{has_float}
use Rattle.serde_json.specs.Find.{get, as_number, as_u64, as_str, as_bool, as_object}
use Rattle.serde_json.specs.View.{items_of}
use Rattle.zarrs_fault.specs.declared.numbers.Numbers.{Numbers}
use Rattle.zarrs_fault.specs.declared.numbers.Numbers.TheVariants.{Whole, Any}
use Rattle.zarrs_form.specs.declared.extension.MetadataV3.{MetadataV3}

infixl 10 ◌>>=◌
-- a form, and the next where it answered a value
abbrev pub ◌>>=◌ : {A B : Type 0} → Option A → (A → Option B) → Option B
None >>= f = None
(Some x) >>= f = f x

-- a whole number of 64 bits
abbrev pub number_u64 : Data → Option ℕ
number_u64 d = option_and_then as_u64 (as_number d)

-- any value, as it stands
abbrev pub any : Data → Option Data
any d = Some d

-- null counts as absent
abbrev pub nullable : {A : Type 0} → (Data → Option A) → Data → Option (Option A)
nullable form null = Some None
nullable form (boolean b) = option_map Some (form (boolean b))
nullable form (number n) = option_map Some (form (number n))
nullable form (string s) = option_map Some (form (string s))
nullable form (array ds) = option_map Some (form (array ds))
nullable form (object ms) = option_map Some (form (object ms))

-- all items have the form
abbrev pub each : {A : Type 0} → (Data → Option A) → Items → Option (List A)
each form no_items = Some []
each form (item d ds) = do
  x ← form d
  xs ← each form ds
  Some (x ∷ xs)

-- a list whose items all have the form
abbrev pub list_of : {A : Type 0} → (Data → Option A) → Data → Option (List A)
list_of form (array ds) = each form ds
list_of form _ = None

-- what was found has the form; where nothing was found it is the value for absent
abbrev pub unless_absent : {A : Type 0} → A → (Data → Option A) → Option Data → Option A
unless_absent absent form None = Some absent
unless_absent absent form (Some d) = form d

-- an object with the text `name`, an optional object `configuration`, null counting as absent, and an optional truth
-- value `must_understand`
abbrev pub extension_object : Data → Option MetadataV3
extension_object d = do
  name ← option_and_then as_str (get (codes "name") d)
  configuration ← unless_absent None (nullable as_object) (get (codes "configuration") d)
  must_understand ← unless_absent true as_bool (get (codes "must_understand") d)
  Some (record { name = name; configuration = configuration; must_understand = must_understand })

-- an extension is a text, which is its name, or else an object with the text `name`
abbrev pub extension : Data → Option MetadataV3
extension (string s) = Some (record { name = s; configuration = None; must_understand = true })
extension d = extension_object d

-- ---- what is written

-- a number is written as itself
abbrev pub number_data : ℕ → Data
number_data n = number (unsigned n)

-- a list is written as the array of what is written of its items
abbrev pub list_data : {A : Type 0} → (A → Data) → List A → Data
list_data written xs = array (items_of (map written xs))

-- what is absent is written as null
abbrev pub nullable_data : {A : Type 0} → (A → Data) → Option A → Data
nullable_data written None = null
nullable_data written (Some x) = written x

-- each number is `u64` or `i64`
abbrev pub fits : Data → Bool
fits d = not (has_float d)

-- each number is one of these
abbrev pub fits_in : Numbers → Data → Bool
fits_in Whole d = fits d
fits_in Any d = true

-- what is there passes the test
abbrev pub none_or : {A : Type 0} → (A → Bool) → Option A → Bool
none_or test None = true
none_or test (Some x) = test x

-- a row of a table puts what is written at its name, or nothing
abbrev pub put_row : List ℕ → Option Data → Members → Members
put_row name None ms = ms
put_row name (Some d) ms = put name d ms

-- all rows of a table, each a name and what is written at it
abbrev pub put_rows : List (List ℕ × Option Data) → Members → Members
put_rows [] ms = ms
put_rows (r ∷ rows) ms = put_rows rows (put_row r.0 r.1 ms)

-- the value, or none where the condition holds
abbrev pub unless : {A : Type 0} → Bool → A → Option A
unless b x = if b then None else Some x

-- the list has no item
abbrev pub is_nil : {A : Type 0} → List A → Bool
is_nil [] = true
is_nil (x ∷ xs) = false

-- an extension is written as its bare name where that says it all, else as an object
abbrev pub extension_data : MetadataV3 → Data
extension_data m =
    if is_none m.configuration && m.must_understand then string m.name
    else object
    (put_rows ((codes "name", Some (string m.name)) ∷ (codes "configuration", option_map object m.configuration)
    ∷ (codes "must_understand", unless m.must_understand (boolean false)) ∷ []) no_members)

-- the numbers of the configuration are among these
abbrev pub extension_fits_in : Numbers → MetadataV3 → Bool
extension_fits_in numbers m = none_or (λ ms. fits_in numbers (object ms)) m.configuration
