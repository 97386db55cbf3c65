use Rattle.std.proofs.Common.{◌∙◌, ap}
use Rattle.zarrs_form.specs.Documents.{is_empty}
use Rattle.zarrs_form.proofs.MemberLists.{members_by_itself}
use Rattle.zarrs_form.proofs.SortedLaws.{none_of_members}
use Rattle.zarrs_form.proofs.fields.AdditionalFieldsV3.is_empty.Goals as goal

pub returns : goal.returns
returns c = c.is_empty.ensures ∙ none_of_members (λ d. d) c.as_slice.result.now ∙ ap is_empty (members_by_itself c.as_slice.result.now ∙ c.as_slice.ensures.fields)
