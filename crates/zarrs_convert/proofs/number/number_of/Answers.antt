use Rattle.std.proofs.Common.{◌∙◌}
use Rattle.zarrs_convert.proofs.Numbers.{parsed_digits}
use Rattle.zarrs_convert.proofs.number.number_of.Goals as goal

pub returns : goal.returns
returns c = c.ok.ensures.value ∙ parsed_digits c.parse.result c.args.digits.now c.parse.ensures.value.0 c.requires
