use Rattle.std.proofs.Common.{◌∙◌}
use Rattle.zarrs_store.specs.Segments.{key_text}
use Rattle.zarrs_store.proofs.BelowLemmas.{strip_is, some_as}
use Rattle.zarrs_examples.proofs.key_list.is_below.Goals as goal

pub returns : goal.returns
returns c =
    c.is_some.ensures ∙ some_as (λ rest. rest.now) key_text _ _
    (strip_is c.args.prefix.now c.args.key.now c.as_str.result.now c.as_str-2.result.now c.strip_prefix.result
    c.as_str-2.ensures.text c.as_str.ensures.text c.as_str-2.ensures.valid c.as_str.ensures.valid c.strip_prefix.ensures.cases)
