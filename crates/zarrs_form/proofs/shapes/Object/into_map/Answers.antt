use Rattle.std.proofs.Common.{◌∙◌, ap}
use Rattle.serde_json.specs.View.{members_view}
use Rattle.zarrs_form.proofs.MemberLists.{if_ok_then}
use Rattle.zarrs_form.proofs.shapes.Object.into_map.Goals as goal

pub returns : goal.returns
returns c = if_ok_then c.map_of.result c.map_of.ensures (λ map is. ap members_view is ∙ c.self.view_is)
