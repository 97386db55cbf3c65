use Rattle.std.proofs.Common.{◌∷◌, [], ◌∙◌, ap, option_map}
use Rattle.serde_json.specs.Find.{get_member}
use Rattle.serde_json.specs.View.{view}
use Rattle.serde_json.proofs.Views.{view-lookup}
use Rattle.zarrs_form.specs.Documents.{besides}
use Rattle.zarrs_form.proofs.SortedLaws.{members_left}
use Rattle.zarrs_form.proofs.shapes.Object.remove.Goals as goal

pub returns-clause-found : goal.returns-clause-found
returns-clause-found c =
    ap (option_map view) c.take_entry.ensures.found ∙ view-lookup c.args.name.now c.self.inside.entries.items ∙ ap (get_member c.args.name.now) c.self.view_is

pub returns-clause-left : goal.returns-clause-left
returns-clause-left c =
    members_left view c.args.name.now c.self.inside.entries.items _ c.self.invariant c.take_entry.ensures.left
    ∙ ap (besides (c.args.name.now ∷ [])) c.self.view_is
