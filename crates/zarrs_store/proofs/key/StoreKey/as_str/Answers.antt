use Rattle.std.proofs.Common.{sym, ◌∙◌, ap, subst, string_bytes}
use Rattle.zarrs_store.specs.Segments.{key_text, IsKey}
use Rattle.zarrs_store.proofs.Cuts.{key_from_text}
use Rattle.zarrs_store.proofs.key.StoreKey.as_str.Goals as goal

pub returns-clause-text : goal.returns-clause-text
returns-clause-text c = c.as_str.ensures.value ∙ sym (key_from_text (string_bytes c.self.inside.text) c.self.invariant).1 ∙ ap key_text c.self.view_is

pub returns-clause-valid : goal.returns-clause-valid
returns-clause-valid c = subst IsKey c.self.view_is (key_from_text (string_bytes c.self.inside.text) c.self.invariant).0
