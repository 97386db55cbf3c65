-- The texts of why words were not read and an output was not written, as they print themselves (RFC 3629;
-- POSIX.1-2017, `write`).
-- <https://www.rfc-editor.org/rfc/rfc3629#section-3>
-- <https://pubs.opengroup.org/onlinepubs/9699919799/functions/write.html>
use Rattle.std.specs.Prelude.{ℕ, List, codes}
use Rattle.zarrs_program.specs.declared.arguments.WordsFault.{WordsFault}
use Rattle.zarrs_program.specs.declared.arguments.WordsFault.TheVariants.{NotText, OutOfMemory}

-- why the words of a run were not read
abbrev pub words_fault_text : WordsFault → List ℕ
words_fault_text NotText = codes "a word is not UTF-8"
words_fault_text OutOfMemory = codes "out of memory"

-- why an output was not written
abbrev pub write_fault_text : List ℕ
write_fault_text = codes "write fault"
