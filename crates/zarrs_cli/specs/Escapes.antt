-- A text as a line of output: a name can neither end the line nor tell a terminal anything. The names of nodes may
-- hold any character but a slash (Zarr
-- core specification 3.1, "Node names"), and JSON says how the others are written.
-- <https://zarr-specs.readthedocs.io/en/latest/v3/core/index.html#node-names>
-- <https://www.rfc-editor.org/rfc/rfc8259#section-7>
--     escaped_text text      the text with control characters and backslashes as JSON writes them
--     escaped_line text      the same and a newline
use Rattle.std.specs.Prelude.{ℕ, ◌/◌, ◌%◌, ◌==◌, cond, nat_lt, List, [], ◌∷◌, ◌++◌, codes}
use Rattle.std.specs.List.{flat_map}
use Rattle.std.specs.Char.{digit_char, encode_utf8}
use Rattle.std.specs.Str.{chars}
use Rattle.zarrs_fault.specs.Bytes.{backslash, newline, space}

-- a character by its code below 256, as `\u001b`
abbrev pub code_escape : ℕ → List ℕ
code_escape c = codes "\\u00" ++ (encode_utf8 (digit_char (c / 16)) ++ encode_utf8 (digit_char (c % 16)))

-- a control character, which is one below U+0020 or from U+007F to U+009F, by its code, and any other as it is
abbrev pub code_or_char : ℕ → List ℕ
code_or_char c =
    cond (nat_lt c space) (code_escape c)
    (cond (nat_lt c 127) (encode_utf8 c) (cond (nat_lt c 160) (code_escape c) (encode_utf8 c)))

-- how a character is written: by its short escape where it has one, else by its code or as it is
abbrev pub escaped_char : ℕ → List ℕ
escaped_char c =
    cond (c == backslash) (codes "\\\\")
    (cond (c == 8) (codes "\\b")
    (cond (c == 9) (codes "\\t")
    (cond (c == newline) (codes "\\n")
    (cond (c == 12) (codes "\\f")
    (cond (c == 13) (codes "\\r") (code_or_char c))))))

-- the text with control characters and backslashes as JSON writes them
abbrev pub escaped_text : List ℕ → List ℕ
escaped_text text = flat_map escaped_char (chars text)

-- the text as a line
abbrev pub escaped_line : List ℕ → List ℕ
escaped_line text = escaped_text text ++ newline ∷ []
