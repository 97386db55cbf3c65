use Rattle.zarrs_store.proofs.SameLemmas.{same_keys}
use Rattle.zarrs_meaning.proofs.exists.is_same.Goals as goal

pub returns : goal.returns
returns c = same_keys c.args.held.now c.args.key.now c.as_str.result.now c.as_str-2.result.now c.eq.result c.as_str.ensures.text c.as_str-2.ensures.text c.as_str.ensures.valid c.as_str-2.ensures.valid c.eq.ensures
