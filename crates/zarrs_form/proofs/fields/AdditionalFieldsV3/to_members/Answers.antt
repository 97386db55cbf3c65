use Rattle.std.proofs.Common.{◌≡◌, ◌∷◌, [], ◌++◌, ◌+◌, drop, take, sym, ap, subst, ◌∙◌, arith}
use Rattle.std.proofs.lemmas.List.{drop_more, take-append-drop, take_all}
use Rattle.serde_json.specs.View.{members_of, members_view}
use Rattle.serde_json.proofs.Views.{members_view-insert_entry}
use Rattle.zarrs_form.specs.SortedMembers.{NamesAscend}
use Rattle.zarrs_form.proofs.MemberLists.{put_last_of, take_next}
use Rattle.zarrs_form.proofs.fields.AdditionalFieldsV3.to_members.Goals as goal

pub loop-entry-preserved : goal.loop-entry-preserved
loop-entry-preserved c =
    let l = c.loop-entry in
    let xs = c.as_slice-entry-items.result.now in
    let e = c.entry-item.result in
    let done = take l.entry-index xs in
    let left = drop (l.entry-index + 1) xs in
    let here : drop l.entry-index xs ≡ e ∷ left = drop_more xs l.entry-index e (omega arith) ∙ ap (λ y. y ∷ left) (sym c.entry-item.is) in
    let all : xs ≡ done ++ e ∷ left = sym (take-append-drop l.entry-index xs) ∙ ap (λ es. done ++ es) here in
    let next : done ++ e ∷ [] ≡ take (l.entry-index + 1) xs = ap (λ y. done ++ y ∷ []) c.entry-item.is ∙ take_next xs l.entry-index e (omega arith) in
    ap members_view c.in_ok-insert.ensures.entries ∙ members_view-insert_entry l.members.entries c.in_ok-clone.field-0 c.in_ok-clone-2.field-0
    ∙ rw (c.in_ok-clone.ensures.cases, c.in_ok-clone-2.ensures.cases, c.as_value.ensures, l.invariant) (put_last_of done e left (subst NamesAscend all c.as_slice-entry-items.ensures.ascending))
    ∙ ap members_of next

pub returns : goal.returns
returns c =
    let l = c.loop-entry in
    let xs = c.as_slice-entry-items.result.now in
    l.invariant ∙ ap members_of (take_all l.entry-index xs (omega arith)) ∙ c.as_slice-entry-items.ensures.fields
