use Rattle.std.proofs.Common.{subst}
use Rattle.std.specs.Fmt.{DisplaysOnOk}
use Rattle.zarrs_node.proofs.TreeTexts.{shape_written}
use Rattle.zarrs_node.proofs.text.write_shape.Goals as goal

pub returns : goal.returns
returns g c =
    subst (λ o. DisplaysOnOk g.W.Write.write_str_gives c.args.f.now c.write.result o c.write.new.self) (shape_written c.args.shape.now) c.write.ensures.writes
