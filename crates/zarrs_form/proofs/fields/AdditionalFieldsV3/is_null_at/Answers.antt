use Rattle.std.proofs.Common.{◌∙◌, ap, is_some}
use Rattle.serde_json.specs.Find.{as_null}
use Rattle.zarrs_form.specs.Documents.{is_null}
use Rattle.zarrs_form.proofs.fields.AdditionalFieldsV3.is_null_at.Goals as goal

pub returns-in-Some : goal.returns-in-Some
returns-in-Some c = c.is_null.ensures ∙ ap (λ d. is_some (as_null d)) c.field.view_is ∙ ap is_null c.in-Some.ensures

pub returns-in-None : goal.returns-in-None
returns-in-None c = ap is_null c.in-None.ensures
