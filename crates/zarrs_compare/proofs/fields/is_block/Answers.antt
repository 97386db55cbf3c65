use Rattle.std.proofs.Common.{ap, sym, ◌∙◌, bytes_eq, string_bytes}
use Rattle.std.specs.Prelude.{codes}
use Rattle.zarrs_compare.proofs.SameSteps.{own_block}
use Rattle.zarrs_compare.proofs.fields.is_block.Goals as goal

pub returns : goal.returns
returns g c = c.eq.ensures ∙ ap (λ s. bytes_eq s (codes "consolidated_metadata")) c.as_str.ensures.value ∙ sym (own_block (string_bytes c.args.field.now.0))
