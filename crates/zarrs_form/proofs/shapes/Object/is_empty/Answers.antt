use Rattle.std.proofs.Common.{◌∙◌, ap}
use Rattle.serde_json.specs.View.{view}
use Rattle.zarrs_form.specs.Documents.{is_empty}
use Rattle.zarrs_form.proofs.SortedLaws.{none_of_members}
use Rattle.zarrs_form.proofs.shapes.Object.is_empty.Goals as goal

pub returns : goal.returns
returns c = c.is_empty.ensures ∙ none_of_members view c.as_slice.result.now ∙ ap is_empty c.as_slice.ensures.members
