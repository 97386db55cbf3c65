use Rattle.std.proofs.Common.{◌≡◌, ◌∷◌, ◌+◌, ◌++◌, drop, map, string_bytes, ap, sym, ◌∙◌, arith}
use Rattle.std.proofs.lemmas.Bool.{or_parts}
use Rattle.std.proofs.lemmas.List.{drop_more}
use Rattle.serde_json.specs.View.{items_of}
use Rattle.serde_json.specs.Written.{has_float, items_have_float}
use Rattle.zarrs_form.specs.Layouts.{items_in, line_in, text_in}
use Rattle.zarrs_form.proofs.TableTexts.{item_pushed}
use Rattle.zarrs_form.proofs.form.ListForm.write.Goals as goal

pub loop-item-preserved : goal.loop-item-preserved
loop-item-preserved g c = λ whole.
    let l = c.loop-item in
    let n = c.args.layout in
    let written = g.T.Form.written in
    let xs = c.as_slice-item-items.result.now in
    let x = c.item-item.result in
    let left = drop (l.item-index + 1) xs in
    let here : drop l.item-index xs ≡ x ∷ left = drop_more xs l.item-index x (omega arith) ∙ ap (λ y. y ∷ left) (sym c.item-item.is) in
    let made = l.invariant whole in
    let parts = or_parts (has_float (written x)) (items_have_float (items_of (map written left))) (ap (λ ys. items_have_float (items_of (map written ys))) (sym here) ∙ made.0) in
    let broken = c.in_ok-write_line.ensures.ok ∙ ap (λ i. string_bytes c.write_comma.new.out ++ line_in i) c.in_ok-inner.ensures in
    let value = c.in_ok-write.ensures.ok parts.0 ∙ ap (λ i. string_bytes c.write_line.new.out ++ text_in i (written x)) c.in_ok-inner.ensures in (
      parts.1,
      item_pushed n (string_bytes l.out) (string_bytes c.write_comma.new.out) (string_bytes c.write_line.new.out) (string_bytes c.write.new.out) l.later (written x) (items_of (map written left))
          c.in_ok-write_comma.ensures.ok broken value
          ∙ ap (λ ys. string_bytes l.out ++ items_in l.later n (items_of (map written ys))) (sym here) ∙ made.1,
    )
