use Rattle.std.proofs.Common.{◌≡◌, ◌∙◌}
use Rattle.serde_json.specs.View.{view}
use Rattle.zarrs_form.proofs.MemberLists.{members_view-clone}
use Rattle.zarrs_form.proofs.SortedLaws.{copies_ascend}
use Rattle.zarrs_form.proofs.shapes.Object.try_clone.Goals as goal

pub returns : goal.returns
returns c = members_view-clone _ _ c.in_ok-clone.ensures.cases.0 ∙ c.self.view_is

pub invariant_of-result : goal.invariant_of-result
invariant_of-result c = copies_ascend (λ v w. view w ≡ view v) c.self.inside.entries.items _ c.in_ok-clone.ensures.cases.0 c.self.invariant
