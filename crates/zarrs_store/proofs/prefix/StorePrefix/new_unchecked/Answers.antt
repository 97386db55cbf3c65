use Rattle.zarrs_store.proofs.Cuts.{prefix_from_text}
use Rattle.std.proofs.Common.{string_bytes}
use Rattle.zarrs_store.proofs.prefix.StorePrefix.new_unchecked.Goals as goal

pub returns-clause-text : goal.returns-clause-text
returns-clause-text c = (prefix_from_text (string_bytes c.args.text) c.requires).1
