use Rattle.std.proofs.Common.{◌≡◌, ◌∙◌}
use Rattle.zarrs_form.proofs.MemberLists.{members_of-clone}
use Rattle.zarrs_form.proofs.SortedLaws.{copies_ascend}
use Rattle.zarrs_form.proofs.fields.AdditionalFieldsV3.try_clone.Goals as goal

pub returns : goal.returns
returns c = members_of-clone _ _ c.in_ok-clone.ensures.cases.0 ∙ c.self.view_is

pub invariant_of-result : goal.invariant_of-result
invariant_of-result c = copies_ascend (λ v w. w ≡ v) c.self.inside.entries.items _ c.in_ok-clone.ensures.cases.0 c.self.invariant
