-- RFC 8259: the layouts in which a value is written, piece by piece. A level of the pretty one is two spaces.
-- <https://www.rfc-editor.org/rfc/rfc8259>
--     pretty_text d, text_in l d      the pretty layout of a value at no depth; its text in a layout
--     key_in l, row_in l              what stands before a member's value; a member and its comma
use Rattle.std.specs.Prelude.{◌≡◌, if◌then◌else◌, ℕ, ◌+◌, List, [], ◌∷◌, ◌++◌, Bool, true, false, Option, Some, None}
use Rattle.json.specs.Layout.{line, pretty}
use Rattle.json.specs.Print.{quoted, token_text}
use Rattle.json.specs.Token.{Token}
use Rattle.json.specs.Tree.{json_tokens}
use Rattle.serde_json.specs.Data.{Data, null, boolean, number, string, array, object, Items, no_items, item, Members}
use Rattle.serde_json.specs.Data.{no_members, member}
use Rattle.serde_json.specs.Written.{comma_if, has_float, number_text, outline}
use Rattle.zarrs_fault.specs.Bytes.{colon, comma, space}
use Rattle.zarrs_form.specs.declared.layout.Layout.{Layout}
use Rattle.zarrs_form.specs.declared.layout.Layout.TheVariants.{Compact, Pretty}

-- the pretty layout of a tree whose numbers are all whole: two spaces a level, and no newline at the end
abbrev pub pretty_text : Data → List ℕ
pretty_text d = pretty (json_tokens (outline d))

-- the layout of what stands within a value
abbrev pub deeper : Layout → Layout
deeper Compact = Compact
deeper (Pretty n) = Pretty (n + 1)

-- the beginning of a line of its own, which the compact layout has not
abbrev pub line_in : Layout → List ℕ
line_in Compact = []
line_in (Pretty n) = line n

-- what stands between a name and its value: a colon, and in the pretty layout a space
abbrev pub colon_in : Layout → List ℕ
colon_in Compact = colon ∷ []
colon_in (Pretty n) = colon ∷ space ∷ []

-- in the pretty layout a line of its own for a closing bracket, where something stands before it
abbrev pub close_line : Bool → Layout → List ℕ
close_line later l = if later then line_in l else []

-- what stands before the value of a member: a comma where a member stands before it, in the pretty layout a line of
-- its own, the name in quotes and a colon
abbrev pub key_in : Bool → Layout → List ℕ → List ℕ
key_in later l k = comma_if later ++ (line_in l ++ (quoted k ++ colon_in l))

abbrev mutual
  -- the text of a value
  pub text_in : Layout → Data → List ℕ
  text_in l null = token_text Token.null
  text_in l (boolean b) = token_text (Token.boolean b)
  text_in l (number x) = number_text x
  text_in l (string s) = quoted s
  text_in l (array ds) = 91 ∷ items_in false l ds
  text_in l (object ms) = 123 ∷ members_in false l ms

  -- the items that are left of an array, and its bracket
  pub items_in : Bool → Layout → Items → List ℕ
  items_in later l no_items = close_line later l ++ 93 ∷ []
  items_in later l (item d ds) = comma_if later ++ (line_in (deeper l) ++ (text_in (deeper l) d ++ items_in true l ds))

  -- the members that are left of an object, and its bracket
  pub members_in : Bool → Layout → Members → List ℕ
  members_in later l no_members = close_line later l ++ 125 ∷ []
  members_in later l (member k d ms) = key_in later (deeper l) k ++ (text_in (deeper l) d ++ members_in true l ms)

-- a row of an object: in the pretty layout a line of its own, the name in quotes, a colon, what is written at it and a
-- comma, or nothing
abbrev pub row_in : Layout → List ℕ → Option Data → List ℕ
row_in l name None = []
row_in l name (Some d) = key_in false (deeper l) name ++ (text_in (deeper l) d ++ comma ∷ [])

-- where something is written, it has no fraction
abbrev pub IsWhole : Option Data → Type 0
IsWhole None = Unit {0}
IsWhole (Some d) = has_float d ≡ false
