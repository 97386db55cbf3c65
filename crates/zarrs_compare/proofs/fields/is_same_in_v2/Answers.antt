use Rattle.std.proofs.Common.{ap, ◌∙◌}
use Rattle.serde_json.specs.View.{members_view}
use Rattle.zarrs_form.specs.Documents.{besides}
use Rattle.zarrs_compare.specs.StepsOfSame.{block_names, same_members}
use Rattle.zarrs_compare.proofs.SameSteps.{same_besides_entries}
use Rattle.zarrs_compare.proofs.fields.is_same_in_v2.Goals as goal

pub returns : goal.returns
returns c =
    let firsts = c.as_slice.result.now in
    let seconds = c.as_slice-2.result.now in
    c.is_same_besides_block.ensures ∙ same_besides_entries firsts seconds
    ∙ ap (λ ms. same_members (besides block_names ms) (besides block_names (members_view seconds))) c.as_slice.ensures.members
    ∙ ap (λ ms. same_members (besides block_names c.args.first.now) (besides block_names ms)) c.as_slice-2.ensures.members
