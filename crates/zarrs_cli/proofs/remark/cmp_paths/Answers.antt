use Rattle.std.proofs.Common.{◌∙◌}
use Rattle.zarrs_cli.proofs.Order.{cmp_prefixes}
use Rattle.zarrs_cli.proofs.remark.cmp_paths.Goals as goal

pub returns : goal.returns
returns c = c.cmp_by_parts.ensures ∙ cmp_prefixes c.args.first.now c.args.second.now _ _ c.as_str.ensures.text c.as_str-2.ensures.text c.as_str.ensures.valid c.as_str-2.ensures.valid
