use Rattle.std.proofs.Common.{◌∙◌, ap, option_map}
use Rattle.serde_json.specs.Find.{get_member}
use Rattle.serde_json.specs.View.{view}
use Rattle.serde_json.proofs.Views.{view-lookup, view_of_ref}
use Rattle.zarrs_form.proofs.shapes.Object.get.Goals as goal

pub returns : goal.returns
returns c =
    view_of_ref c.find.result ∙ ap (option_map view) c.find.ensures ∙ view-lookup c.args.name.now c.as_slice.result.now
    ∙ ap (get_member c.args.name.now) c.as_slice.ensures.members
