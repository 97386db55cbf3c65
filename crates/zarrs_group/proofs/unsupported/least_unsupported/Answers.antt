use Rattle.std.proofs.Common.{◌≡◌, ◌∷◌, ◌+◌, ◌∙◌, ap, sym, subst, drop, true, Some, None, string_bytes, refl, arith}
use Rattle.std.proofs.lemmas.List.{drop_more, drop_all}
use Rattle.serde_json.specs.View.{members_of}
use Rattle.zarrs_form.specs.Fields.{must_understand}
use Rattle.zarrs_group.proofs.Fields.{first_unsupported}
use Rattle.zarrs_group.specs.OpeningGroups.{IsUnsupported}
use Rattle.zarrs_group.specs.UnsupportedFields.{UnsupportedField}
use Rattle.zarrs_group.proofs.FieldLemmas.{unsupported_of}
use Rattle.zarrs_group.proofs.unsupported.least_unsupported.Goals as goal

pub loop-entry-preserved : goal.loop-entry-preserved
loop-entry-preserved c =
    let l = c.loop-entry in
    let xs = c.as_slice-entry-items.result.now in
    let x = c.entry-item.result in
    let left = drop (l.entry-index + 1) xs in
    let here : drop l.entry-index xs ≡ x ∷ left = drop_more xs l.entry-index x (omega arith) ∙ ap (λ y. y ∷ left) (sym c.entry-item.is) in
    let other = sym c.must_understand.ensures ∙ c.if-must_understand.false in
    let passed : first_unsupported (members_of left) ≡ first_unsupported (members_of (x ∷ left)) = rw other refl in
    passed ∙ ap (λ es. first_unsupported (members_of es)) (sym here) ∙ l.invariant

pub returns-then-must_understand : goal.returns-then-must_understand
returns-then-must_understand c =
    let l = c.loop-entry in
    let xs = c.as_slice-entry-items.result.now in
    let x = c.entry-item.result in
    let left = drop (l.entry-index + 1) xs in
    let here : drop l.entry-index xs ≡ x ∷ left = drop_more xs l.entry-index x (omega arith) ∙ ap (λ y. y ∷ left) (sym c.entry-item.is) in
    let own : must_understand x.1 ≡ true = sym c.must_understand.ensures ∙ c.if-must_understand.true in
    let wanted : UnsupportedField = record { name = string_bytes x.0; value = x.1 } in
    let built : c.new-error.result ≡ wanted = c.new-error.ensures ∙ rw (c.in_ok-clone.ensures.cases, c.in_ok-clone-2.ensures.cases, c.as_value.ensures) refl in
    let found : Some wanted ≡ first_unsupported (members_of (x ∷ left)) = rw own refl in
    let first = ap Some built ∙ found ∙ ap (λ es. first_unsupported (members_of es)) (sym here) ∙ l.invariant in
    subst (λ ms. IsUnsupported ms (Some c.new-error.result)) c.as_slice-entry-items.ensures.fields
    (unsupported_of xs c.as_slice-entry-items.ensures.ascending (Some c.new-error.result) (first ∙ ap first_unsupported (sym c.as_slice-entry-items.ensures.fields)))

pub returns : goal.returns
returns c =
    let l = c.loop-entry in
    let xs = c.as_slice-entry-items.result.now in
    let first = ap (λ es. first_unsupported (members_of es)) (sym (drop_all l.entry-index xs (omega arith))) ∙ l.invariant in
    subst (λ ms. IsUnsupported ms None) c.as_slice-entry-items.ensures.fields
    (unsupported_of xs c.as_slice-entry-items.ensures.ascending None (first ∙ ap first_unsupported (sym c.as_slice-entry-items.ensures.fields)))
