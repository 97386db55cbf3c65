use Rattle.std.proofs.Common.{ap}
use Rattle.serde_json.specs.View.{members_view}
use Rattle.zarrs_form.proofs.SortedLaws.{none_ascend}
use Rattle.zarrs_form.proofs.shapes.Object.new.Goals as goal

pub returns : goal.returns
returns c = ap members_view c.new.ensures.items

pub invariant_of-result : goal.invariant_of-result
invariant_of-result c = none_ascend _ c.new.ensures.items
