use Rattle.std.proofs.Common.{ap, subst, sym}
use Rattle.serde_json.specs.View.{members_view}
use Rattle.zarrs_form.specs.SortedMembers.{NamesAscend}
use Rattle.zarrs_form.proofs.shapes.Object.from_map.Goals as goal

pub returns : goal.returns
returns c = ap members_view c.in_ok-entries_of.ensures.entries

pub invariant_of-result : goal.invariant_of-result
invariant_of-result c = subst NamesAscend (sym c.in_ok-entries_of.ensures.entries) c.in_ok-entries_of.ensures.ascending
