use Rattle.std.proofs.Common.{sym, subst}
use Rattle.std.specs.Str.{IsAscii}
use Rattle.zarrs_group.proofs.AsciiBytes.{ascii_text-IsAscii}
use Rattle.zarrs_group.proofs.ascii.in_ascii.Goals as goal

-- what is ASCII stays
pub returns-then-is_ascii : goal.returns-then-is_ascii
returns-then-is_ascii c =
    let ascii = subst IsAscii c.deref.ensures.value c.if-is_ascii.ensures.cases in
    sym (ascii_text-IsAscii c.args.text.items ascii)
