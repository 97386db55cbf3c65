use Rattle.std.proofs.Common.{◌≡◌, ◌∷◌, ◌+◌, ◌||◌, drop, sym, ap, ◌∙◌, arith}
use Rattle.std.proofs.lemmas.List.{drop_more, drop_all}
use Rattle.serde_json.specs.View.{members_view}
use Rattle.serde_json.specs.Written.{members_have_float}
use Rattle.zarrs_form.proofs.shapes.Object.has_float.Goals as goal

pub loop-entry-preserved : goal.loop-entry-preserved
loop-entry-preserved c =
    let l = c.loop-entry in
    let xs = c.as_slice-entry-items.result.now in
    let x = c.entry-item.result in
    let left = drop (l.entry-index + 1) xs in
    let here : drop l.entry-index xs ≡ x ∷ left = drop_more xs l.entry-index x (omega arith) ∙ ap (λ y. y ∷ left) (sym c.entry-item.is) in
    ap (λ b. b || members_have_float (members_view left)) (sym c.if-has_float.false ∙ c.has_float.ensures) ∙ ap (λ es. members_have_float (members_view es)) (sym here) ∙ l.invariant

pub returns-then-has_float : goal.returns-then-has_float
returns-then-has_float c =
    let l = c.loop-entry in
    let xs = c.as_slice-entry-items.result.now in
    let x = c.entry-item.result in
    let left = drop (l.entry-index + 1) xs in
    let here : drop l.entry-index xs ≡ x ∷ left = drop_more xs l.entry-index x (omega arith) ∙ ap (λ y. y ∷ left) (sym c.entry-item.is) in
    ap (λ b. b || members_have_float (members_view left)) (sym c.if-has_float.true ∙ c.has_float.ensures) ∙ ap (λ es. members_have_float (members_view es)) (sym here) ∙ l.invariant
    ∙ ap members_have_float c.as_slice-entry-items.ensures.members

pub returns : goal.returns
returns c =
    let l = c.loop-entry in
    let xs = c.as_slice-entry-items.result.now in
    ap (λ es. members_have_float (members_view es)) (sym (drop_all l.entry-index xs (omega arith))) ∙ l.invariant ∙ ap members_have_float c.as_slice-entry-items.ensures.members
