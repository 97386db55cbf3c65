use Rattle.zarrs_store.proofs.BelowLemmas.{strip_is}
use Rattle.zarrs_store.proofs.prefix.StorePrefix.strip.Goals as goal

pub returns : goal.returns
returns c =
    strip_is c.args.self.now c.args.key.now c.as_str.result.now c.as_str-2.result.now c.strip_prefix.result
    c.as_str-2.ensures.text c.as_str.ensures.text c.as_str-2.ensures.valid c.as_str.ensures.valid c.strip_prefix.ensures.cases
