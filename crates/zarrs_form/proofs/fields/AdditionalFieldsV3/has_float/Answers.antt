use Rattle.std.proofs.Common.{◌≡◌, ◌∷◌, ◌+◌, ◌||◌, drop, sym, ap, ◌∙◌, arith}
use Rattle.std.proofs.lemmas.List.{drop_more, drop_all}
use Rattle.serde_json.specs.View.{members_of}
use Rattle.serde_json.specs.Written.{has_float, members_have_float}
use Rattle.zarrs_form.proofs.fields.AdditionalFieldsV3.has_float.Goals as goal

pub loop-entry-preserved : goal.loop-entry-preserved
loop-entry-preserved c =
    let l = c.loop-entry in
    let xs = c.as_slice-entry-items.result.now in
    let x = c.entry-item.result in
    let left = drop (l.entry-index + 1) xs in
    let here : drop l.entry-index xs ≡ x ∷ left = drop_more xs l.entry-index x (omega arith) ∙ ap (λ y. y ∷ left) (sym c.entry-item.is) in
    ap (λ b. b || members_have_float (members_of left)) (sym c.if-has_float.false ∙ c.has_float.ensures ∙ ap has_float c.as_value.ensures) ∙ ap (λ es. members_have_float (members_of es)) (sym here) ∙ l.invariant

pub returns-then-has_float : goal.returns-then-has_float
returns-then-has_float c =
    let l = c.loop-entry in
    let xs = c.as_slice-entry-items.result.now in
    let x = c.entry-item.result in
    let left = drop (l.entry-index + 1) xs in
    let here : drop l.entry-index xs ≡ x ∷ left = drop_more xs l.entry-index x (omega arith) ∙ ap (λ y. y ∷ left) (sym c.entry-item.is) in
    ap (λ b. b || members_have_float (members_of left)) (sym c.if-has_float.true ∙ c.has_float.ensures ∙ ap has_float c.as_value.ensures) ∙ ap (λ es. members_have_float (members_of es)) (sym here) ∙ l.invariant
    ∙ ap members_have_float c.as_slice-entry-items.ensures.fields

pub returns : goal.returns
returns c =
    let l = c.loop-entry in
    let xs = c.as_slice-entry-items.result.now in
    ap (λ es. members_have_float (members_of es)) (sym (drop_all l.entry-index xs (omega arith))) ∙ l.invariant ∙ ap members_have_float c.as_slice-entry-items.ensures.fields
