use Rattle.std.proofs.Common.{string_bytes}
use Rattle.zarrs_cli.proofs.Lines.{popped}
use Rattle.zarrs_cli.proofs.shown.drop_newline.Goals as goal

pub returns : goal.returns
returns c = λ front is. popped (string_bytes c.args.text.now) _ front _ c.args.text.now.bytes.ok.0 is c.pop.ensures.ascii_bytes
