use Rattle.std.proofs.Common.{◌≡◌, ◌+◌, ◌-◌, ◌∷◌, [], ◌++◌, length, take, drop, false, string_bytes, nat_cmp, ap, refl, sym, ◌∙◌, append_assoc, arith}
use Rattle.std.specs.Cmp.Lexicographic.{slice_cmp}
use Rattle.std.proofs.lemmas.Bool.{or_parts}
use Rattle.std.proofs.lemmas.List.{drop_all, drop_more, take_rest}
use Rattle.std.proofs.lemmas.Result.{on_ok_weaker}
use Rattle.serde_json.specs.Data.{member, no_members, put, string}
use Rattle.serde_json.specs.View.{view, members_view}
use Rattle.serde_json.specs.Written.{has_float, members_have_float}
use Rattle.serde_json.proofs.Views.{Entry}
use Rattle.zarrs_form.specs.Layouts.{deeper, key_in, members_in, text_in}
use Rattle.zarrs_form.proofs.MemberLaws.{put_before, put_behind, put_over}
use Rattle.zarrs_form.proofs.TableTexts.{member_pushed, members_pushed}
use Rattle.zarrs_form.proofs.values.write_members_with.Goals as goal
use Rattle.zarrs_form.proofs.values.write_members_with.Goals.{in-Less, in-Equal}

-- a member whose name is smaller is written before the text
pub loop-place-preserved : goal.loop-place-preserved
loop-place-preserved c = λ whole.
    let l = c.loop-place in
    let xs = c.args.members.now in
    let n = c.args.layout in
    let k = c.args.name.now in
    let d = string c.args.text.now in
    let e : Entry = c.index-members-place.result in
    let left = drop (l.place + 1) xs in
    let rest = put k d (members_view left) in
    let step : drop l.place xs ≡ e ∷ left = drop_more xs l.place e (omega arith) ∙ ap (λ y. y ∷ left) (sym c.index-members-place.is) in
    let order = ap (λ t. slice_cmp nat_cmp k t) (sym c.as_str.ensures.value) ∙ sym c.cmp.ensures ∙ c.in-Greater.is in
    let is = ap (λ es. put k d (members_view es)) step ∙ put_behind k (string_bytes e.0) d (view e.1) (members_view left) order in
    let made = l.invariant whole in
    let parts = or_parts (has_float (view e.1)) (members_have_float rest) (ap members_have_float (sym is) ∙ made.0) in
    let key = c.in_ok-write_key-in-Greater.ensures.ok ∙ ap (λ i. string_bytes l.out ++ key_in l.later i c.as_str-in-Greater.result.now) c.in_ok-inner.ensures
    ∙ ap (λ t. string_bytes l.out ++ key_in l.later (deeper n) t) c.as_str-in-Greater.ensures.value in
    let value = c.in_ok-write_value-in-Greater.ensures.ok parts.0 ∙ ap (λ i. string_bytes c.write_key.new.out ++ text_in i (view e.1)) c.in_ok-inner.ensures in (
      parts.1,
      member_pushed n (string_bytes l.out) (string_bytes c.write_key.new.out) (string_bytes c.write_value.new.out) l.later (string_bytes e.0) (view e.1) rest key value
          ∙ ap (λ ms. string_bytes l.out ++ members_in l.later n ms) (sym is) ∙ made.1,
    )

-- the text stands before the first greater name, or in the place of its own
pub returns-in-loop-place : goal.returns-in-loop-place
returns-in-loop-place c = record {
  ok =
      let l = c.loop-place in
      let xs = c.args.members.now in
      let n = c.args.layout in
      let k = c.args.name.now in
      let d = string c.args.text.now in
      let old = string_bytes c.args.out.now in
      let all = members_in false n (put k d (members_view xs)) in
      let e : Entry = c.index-members-place.result in
      let left = drop (l.place + 1) xs in
      let step : drop l.place xs ≡ e ∷ left = drop_more xs l.place e (omega arith) ∙ ap (λ y. y ∷ left) (sym c.index-members-place.is) in
      let compared = ap (λ t. slice_cmp nat_cmp k t) (sym c.as_str.ensures.value) ∙ sym c.cmp.ensures in
      let i = c.match-cmp.behind in
      let behind = take (length xs - i) (drop i xs) in
      let is =
      elim c.match-cmp.branch as (λ _. put k d (members_view (drop l.place xs)) ≡ member k d (members_view behind)) [
        | in-Less w ↦ ap (λ es. put k d (members_view es)) step ∙ put_before k (string_bytes e.0) d (view e.1) (members_view left) (compared ∙ w.in-Less.is)
            ∙ ap (λ es. member k d (members_view es)) (sym step ∙ ap (λ j. drop j xs) (sym w.behind-is) ∙ sym (take_rest xs i))
        | in-Equal w ↦ ap (λ es. put k d (members_view es)) step ∙ put_over k (string_bytes e.0) d (view e.1) (members_view left) (compared ∙ w.in-Equal.is)
            ∙ ap (λ es. member k d (members_view es)) (ap (λ j. drop j xs) (sym w.behind-is) ∙ sym (take_rest xs i))
      ] in
      on_ok_weaker c.write_left.result (λ last whole.
      let made = l.invariant whole in
      let key = c.in_ok-write_key.ensures.ok ∙ ap (λ i. string_bytes l.out ++ key_in l.later i k) c.in_ok-inner.ensures in
      members_pushed n (string_bytes l.out) (string_bytes c.write_key-in-loop-place.new.out) (string_bytes c.write_text.new.out) _ l.later k d (members_view behind)
      key c.in_ok-write_text.ensures.ok (last (ap members_have_float (sym is) ∙ made.0))
      ∙ ap (λ ms. string_bytes l.out ++ members_in l.later n ms) (sym is) ∙ made.1 ∙ ap (λ s. s ++ all) c.in_ok-push_str.ensures.bytes ∙ append_assoc old (123 ∷ []) all) c.write_left.ensures.ok;
}

-- the text stands last
pub returns : goal.returns
returns c = record {
  ok =
      let l = c.loop-place in
      let xs = c.args.members.now in
      let n = c.args.layout in
      let k = c.args.name.now in
      let d = string c.args.text.now in
      let old = string_bytes c.args.out.now in
      let all = members_in false n (put k d (members_view xs)) in
      let is = ap (λ es. put k d (members_view es)) (drop_all l.place xs (omega arith)) in
      on_ok_weaker c.write_left-2.result (λ last whole.
      let made = l.invariant whole in
      let key = c.in_ok-write_key-2.ensures.ok ∙ ap (λ i. string_bytes l.out ++ key_in l.later i k) c.in_ok-inner.ensures in
      members_pushed n (string_bytes l.out) (string_bytes c.write_key-2.new.out) (string_bytes c.write_text-2.new.out) _ l.later k d no_members
      key c.in_ok-write_text-2.ensures.ok (last refl)
      ∙ ap (λ ms. string_bytes l.out ++ members_in l.later n ms) (sym is) ∙ made.1 ∙ ap (λ s. s ++ all) c.in_ok-push_str.ensures.bytes ∙ append_assoc old (123 ∷ []) all) c.write_left-2.ensures.ok;
}
