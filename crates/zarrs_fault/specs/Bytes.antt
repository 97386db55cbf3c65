-- The bytes that keys, paths and texts are put together with, as ASCII has them.
-- <https://www.rfc-editor.org/rfc/rfc20>
use Rattle.std.specs.Prelude.{ℕ}

-- the byte that ends a line
abbrev pub newline : ℕ
newline = 10

-- a space
abbrev pub space : ℕ
space = 32

-- what stands between the items of a JSON array and the members of an object
abbrev pub comma : ℕ
comma = 44

-- a period
abbrev pub period : ℕ
period = 46

-- what stands between the names of a path and the segments of a key
abbrev pub slash : ℕ
slash = 47

-- what stands behind the name of a JSON member
abbrev pub colon : ℕ
colon = 58

-- what begins an escape
abbrev pub backslash : ℕ
backslash = 92
