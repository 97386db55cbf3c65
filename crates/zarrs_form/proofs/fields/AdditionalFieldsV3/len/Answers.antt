use Rattle.std.proofs.Common.{◌∙◌, ap}
use Rattle.serde_json.specs.Events.{members_len}
use Rattle.zarrs_form.proofs.MemberLists.{members_by_itself}
use Rattle.zarrs_form.proofs.SortedLaws.{len_of_members}
use Rattle.zarrs_form.proofs.fields.AdditionalFieldsV3.len.Goals as goal

pub returns : goal.returns
returns c = len_of_members (λ d. d) c.as_slice.result.now ∙ ap members_len (members_by_itself c.as_slice.result.now ∙ c.as_slice.ensures.fields)
