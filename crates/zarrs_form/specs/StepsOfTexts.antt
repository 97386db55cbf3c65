-- Steps of texts that are put together piece by piece; no public contract rests on them.
use Rattle.std.specs.Prelude.{ℕ, ◌==◌, ◌||◌, nat_lt, Bool, List, [], ◌++◌, true}
use Rattle.serde_json.specs.Data.{Members, no_members, member}
use Rattle.zarrs_form.specs.declared.layout.Layout.TheVariants.{Pretty}
use Rattle.zarrs_form.specs.Layouts.{key_in, text_in}
use Rattle.zarrs_fault.specs.Bytes.{backslash, space}

-- the mark at both ends of a JSON string
abbrev pub quotation_mark : ℕ
quotation_mark = 34

-- a byte has an escape: a control character, the quotation mark or the backslash
abbrev pub has_escape : ℕ → Bool
has_escape b = nat_lt b space || ((b == quotation_mark) || (b == backslash))

-- the members of an object that stands one level deep, one after the other
abbrev pub entries_text : Bool → Members → List ℕ
entries_text later no_members = []
entries_text later (member k d ms) = (key_in later (Pretty 2) k ++ text_in (Pretty 2) d) ++ entries_text true ms
