use Rattle.std.proofs.Common.{◌≡◌, string_bytes, rules}
use Rattle.zarrs_cli.specs.Escapes.{escaped_line}
use Rattle.zarrs_cli.proofs.consolidate.line_of.Goals as goal

pub returns : goal.returns
returns c =
    let is : string_bytes c.push_line.new.out ≡ escaped_line (string_bytes c.in_ok-text.text) = search rules in
    (string_bytes c.in_ok-text.text, c.in_ok-text.ensures, is)
