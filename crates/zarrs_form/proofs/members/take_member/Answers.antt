use Rattle.std.proofs.Common.{◌∙◌, ap, option_map}
use Rattle.serde_json.proofs.Views.{view-lookup}
use Rattle.serde_json.specs.View.{view}
use Rattle.zarrs_form.proofs.FieldLaws.{besides_left}
use Rattle.zarrs_form.proofs.members.take_member.Goals as goal

pub returns-clause-found : goal.returns-clause-found
returns-clause-found c = ap (option_map view) c.remove.ensures.value ∙ view-lookup c.args.name.now c.args.members.now.entries

pub returns-clause-left : goal.returns-clause-left
returns-clause-left c = besides_left c.args.name.now c.args.members.now.entries c.remove.new.self.entries c.remove.ensures.entries c.remove.ensures.updates.1
