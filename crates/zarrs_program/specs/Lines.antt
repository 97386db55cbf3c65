-- The lines that a program writes on the standard error (POSIX.1-2017, "Utility Description Defaults", "STDERR").
-- <https://pubs.opengroup.org/onlinepubs/9699919799/utilities/V3_chap01.html>
use Rattle.std.specs.Prelude.{ℕ, List, [], ◌∷◌, ◌++◌, codes}
use Rattle.zarrs_fault.specs.Bytes.{newline}

-- the line of a text: the text and a newline
abbrev pub text_line : List ℕ → List ℕ
text_line text = text ++ newline ∷ []

-- the line by which a program tells something: its name, a colon, a space and the text
abbrev pub told_line : List ℕ → List ℕ → List ℕ
told_line program text = program ++ (codes ": " ++ text_line text)
