use Rattle.std.proofs.Common.{ap, ◌∙◌}
use Rattle.serde_json.specs.View.{members_view}
use Rattle.zarrs_compare.specs.StepsOfSame.{same_members}
use Rattle.zarrs_compare.proofs.SameSteps.{same_entries}
use Rattle.zarrs_compare.proofs.parts.ObjectSame.is_same.Goals as goal

pub returns : goal.returns
returns c =
    c.is_same_slice.ensures ∙ same_entries c.as_slice.result.now c.as_slice-2.result.now
    ∙ ap (λ ms. same_members ms (members_view c.as_slice-2.result.now)) c.as_slice.ensures.members ∙ ap (same_members c.args.self.now) c.as_slice-2.ensures.members
