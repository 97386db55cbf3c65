use Rattle.std.proofs.Common.{◌∙◌, ap}
use Rattle.serde_json.specs.Events.{members_len}
use Rattle.serde_json.specs.View.{view}
use Rattle.zarrs_form.proofs.SortedLaws.{len_of_members}
use Rattle.zarrs_form.proofs.shapes.Object.len.Goals as goal

pub returns : goal.returns
returns c = len_of_members view c.as_slice.result.now ∙ ap members_len c.as_slice.ensures.members
