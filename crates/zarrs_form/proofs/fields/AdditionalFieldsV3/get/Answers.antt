use Rattle.std.proofs.Common.{◌∙◌, ap}
use Rattle.serde_json.specs.Find.{get_member}
use Rattle.zarrs_form.proofs.MemberLists.{lookup-members_of}
use Rattle.zarrs_form.proofs.fields.AdditionalFieldsV3.get.Goals as goal

pub returns : goal.returns
returns c = c.find.ensures ∙ lookup-members_of c.args.name.now c.as_slice.result.now ∙ ap (get_member c.args.name.now) c.as_slice.ensures.fields
