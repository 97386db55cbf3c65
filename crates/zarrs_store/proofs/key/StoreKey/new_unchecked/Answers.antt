use Rattle.zarrs_store.proofs.Cuts.{key_from_text}
use Rattle.std.proofs.Common.{string_bytes}
use Rattle.zarrs_store.proofs.key.StoreKey.new_unchecked.Goals as goal

pub returns-clause-text : goal.returns-clause-text
returns-clause-text c = (key_from_text (string_bytes c.args.text) c.requires).1
