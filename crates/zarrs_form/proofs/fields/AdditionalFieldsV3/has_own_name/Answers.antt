use Rattle.std.proofs.Common.{◌∙◌, ap, map}
use Rattle.zarrs_form.specs.Documents.{has_own}
use Rattle.zarrs_form.proofs.MemberLists.{members_by_itself}
use Rattle.zarrs_form.proofs.SortedLaws.{own_of_members}
use Rattle.zarrs_form.proofs.fields.AdditionalFieldsV3.has_own_name.Goals as goal

pub returns : goal.returns
returns c =
    let names = map (λ name. name.now) c.args.own_names.now in
    c.has_own_entry.ensures ∙ own_of_members (λ d. d) names c.as_slice.result.now ∙ ap (has_own names) (members_by_itself c.as_slice.result.now ∙ c.as_slice.ensures.fields)
