use Rattle.std.proofs.Common.{◌∙◌}
use Rattle.zarrs_store.specs.Segments.{key_text}
use Rattle.zarrs_store.proofs.BelowLemmas.{some_as}
use Rattle.zarrs_store.proofs.prefix.StorePrefix.is_above.Goals as goal

pub returns : goal.returns
returns c = c.is_some.ensures ∙ some_as (λ rest. rest.now) key_text _ _ c.strip.ensures
