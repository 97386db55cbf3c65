use Rattle.std.proofs.Common.{◌≡◌, ◌+◌, ◌∷◌, ◌++◌, drop, string_bytes, ap, sym, ◌∙◌, arith}
use Rattle.std.proofs.lemmas.Bool.{or_parts}
use Rattle.std.proofs.lemmas.List.{drop_more}
use Rattle.serde_json.specs.View.{view, members_view}
use Rattle.serde_json.specs.Written.{has_float, members_have_float}
use Rattle.serde_json.proofs.Views.{Entry}
use Rattle.zarrs_form.specs.Layouts.{deeper, key_in, members_in, text_in}
use Rattle.zarrs_form.proofs.TableTexts.{member_pushed}
use Rattle.zarrs_form.proofs.values.write_left.Goals as goal

pub loop-member-preserved : goal.loop-member-preserved
loop-member-preserved c = λ whole.
    let l = c.loop-member in
    let xs = c.args.members.now in
    let n = c.args.layout in
    let e : Entry = c.member-item.result in
    let left = drop (l.member-index + 1) xs in
    let step : drop l.member-index xs ≡ e ∷ left = drop_more xs l.member-index e (omega arith) ∙ ap (λ y. y ∷ left) (sym c.member-item.is) in
    let made = l.invariant whole in
    let parts = or_parts (has_float (view e.1)) (members_have_float (members_view left)) (ap (λ es. members_have_float (members_view es)) (sym step) ∙ made.0) in
    let key = c.in_ok-write_key.ensures.ok ∙ ap (λ i. string_bytes l.out ++ key_in l.later i c.as_str.result.now) c.in_ok-inner.ensures
    ∙ ap (λ k. string_bytes l.out ++ key_in l.later (deeper n) k) c.as_str.ensures.value in
    let value = c.in_ok-write_value.ensures.ok parts.0 ∙ ap (λ i. string_bytes c.write_key.new.out ++ text_in i (view e.1)) c.in_ok-inner.ensures in (
      parts.1,
      member_pushed n (string_bytes l.out) (string_bytes c.write_key.new.out) (string_bytes c.write_value.new.out) l.later (string_bytes e.0) (view e.1) (members_view left)
          key value
          ∙ ap (λ es. string_bytes l.out ++ members_in l.later n (members_view es)) (sym step) ∙ made.1,
    )
