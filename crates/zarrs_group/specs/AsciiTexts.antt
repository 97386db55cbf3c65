-- RFC 8259, "Strings": the bytes of a document in ASCII, as readers of version 2 documents want them: each character
-- beyond ASCII is written by the escapes of its UTF-16 code units.
-- <https://www.rfc-editor.org/rfc/rfc8259#section-7>
--     ascii_text text           the text in ASCII
--     IsAsciiTextOf bytes d     the bytes are what is written of d in ASCII
use Rattle.std.specs.Prelude.{◌≡◌, ℕ, List, [], ◌∷◌, ◌++◌, nat_lt, if◌then◌else◌, Some, codes}
use Rattle.std.specs.List.{flat_map}
use Rattle.std.specs.Char.Escape.{encode_utf16, hex_digit_at}
use Rattle.std.specs.Str.{chars}
use Rattle.serde_json.specs.Data.{Data}
use Rattle.zarrs_form.specs.Documents.{json_of}
use Rattle.zarrs_form.specs.DocumentTexts.{IsTextOf}

-- a UTF-16 code unit by its four hexadecimal digits in lower case, as `\u00e9`
abbrev pub unit_escape : ℕ → List ℕ
unit_escape unit =
    codes "\\u" ++ (hex_digit_at 4096 unit ∷ hex_digit_at 256 unit ∷ hex_digit_at 16 unit ∷ hex_digit_at 1 unit ∷ [])

-- a character of ASCII as it is, and any other by the escapes of its UTF-16 code units, which are two from U+10000 on
abbrev pub ascii_char : ℕ → List ℕ
ascii_char c = if nat_lt c 128 then c ∷ [] else flat_map unit_escape (encode_utf16 c)

-- the text in ASCII: each of its characters so
abbrev pub ascii_text : List ℕ → List ℕ
ascii_text text = flat_map ascii_char (chars text)

-- the bytes are what is written of a tree in ASCII: a text that is written of it, in ASCII; and they are read as the
-- tree
pub record IsAsciiTextOf (bytes : List ℕ) (d : Data) : Type 0 where
  pub text : List ℕ
  pub written : IsTextOf text d
  pub ascii : bytes ≡ ascii_text text
  pub reads : json_of bytes ≡ Some d
