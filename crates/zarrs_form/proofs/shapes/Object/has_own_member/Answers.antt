use Rattle.std.proofs.Common.{◌∙◌, ap, map}
use Rattle.serde_json.specs.View.{view}
use Rattle.zarrs_form.specs.Documents.{has_own}
use Rattle.zarrs_form.proofs.SortedLaws.{own_of_members}
use Rattle.zarrs_form.proofs.shapes.Object.has_own_member.Goals as goal

pub returns : goal.returns
returns c =
    let names = map (λ name. name.now) c.args.own_names.now in
    c.has_own_entry.ensures ∙ own_of_members view names c.as_slice.result.now ∙ ap (has_own names) c.as_slice.ensures.members
