use Rattle.std.proofs.Common.{ap, ◌∙◌}
use Rattle.serde_json.specs.View.{members_of}
use Rattle.zarrs_compare.specs.StepsOfSame.{same_members}
use Rattle.zarrs_compare.proofs.SameSteps.{same_fields}
use Rattle.zarrs_compare.proofs.parts.AdditionalFieldsV3Same.is_same.Goals as goal

pub returns : goal.returns
returns c =
    c.is_same_slice.ensures ∙ same_fields c.as_slice.result.now c.as_slice-2.result.now
    ∙ ap (λ ms. same_members ms (members_of c.as_slice-2.result.now)) c.as_slice.ensures.fields ∙ ap (same_members c.args.self.now) c.as_slice-2.ensures.fields
