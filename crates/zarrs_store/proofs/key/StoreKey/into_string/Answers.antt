use Rattle.std.proofs.Common.{sym, ◌∙◌, ap, string_bytes}
use Rattle.zarrs_store.specs.Segments.{key_text}
use Rattle.zarrs_store.proofs.Cuts.{key_from_text}
use Rattle.zarrs_store.proofs.key.StoreKey.into_string.Goals as goal

pub returns-clause-text : goal.returns-clause-text
returns-clause-text c = sym (key_from_text (string_bytes c.self.inside.text) c.self.invariant).1 ∙ ap key_text c.self.view_is
