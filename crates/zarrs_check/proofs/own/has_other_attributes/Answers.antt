use Rattle.std.proofs.Common.{◌≡◌, Some, sym, ap, ◌∙◌}
use Rattle.std.specs.Prelude.{unwrap_or}
use Rattle.serde_json.specs.View.{members_view, view}
use Rattle.zarrs_check.specs.StepsOfOwnAttributes.{is_other, own_in_members}
use Rattle.zarrs_check.proofs.OwnAttributes.{members_there, other_is}
use Rattle.zarrs_check.proofs.own.has_other_attributes.Goals as goal

pub returns-in-Some-2 : goal.returns-in-Some-2
returns-in-Some-2 c = λ ms is.
    let found : Some (members_view c.in-Some.members.now.entries) ≡ Some ms = c.in-Some.ensures ∙ members_there c.args.numbers (view c.args.document.now) ms is in
    let same : members_view c.in-Some.members.now.entries ≡ ms = ap (λ o. unwrap_or o ms) found in
    let own : Some c.in-Some-2.own ≡ own_in_members c.args.numbers ms = sym c.in-Some-2.is ∙ c.in_ok-own.ensures ∙ ap (own_in_members c.args.numbers) same in
    other_is c.is_same.result c.in-Some-2.own c.args.attributes c.is_same.ensures ∙ ap (is_other c.args.attributes) own
