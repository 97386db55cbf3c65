use Rattle.std.proofs.Common.{sym, ◌∙◌, ap, subst, string_bytes}
use Rattle.zarrs_store.specs.Segments.{prefix_text, IsPrefix}
use Rattle.zarrs_store.proofs.Cuts.{prefix_from_text}
use Rattle.zarrs_store.proofs.prefix.StorePrefix.as_str.Goals as goal

pub returns-clause-text : goal.returns-clause-text
returns-clause-text c = c.as_str.ensures.value ∙ sym (prefix_from_text (string_bytes c.self.inside.text) c.self.invariant).1 ∙ ap prefix_text c.self.view_is

pub returns-clause-valid : goal.returns-clause-valid
returns-clause-valid c = subst IsPrefix c.self.view_is (prefix_from_text (string_bytes c.self.inside.text) c.self.invariant).0
