use Rattle.std.proofs.Common.{◌≡◌, ◌∙◌, List, ℕ, Some, option_map, sym, ap, subst, IsTrue, string_bytes}
use Rattle.std.specs.FinMap as map
use Rattle.serde_json.specs.Find.{as_str}
use Rattle.serde_json.specs.View.{view}
use Rattle.zarrs_store.specs.Segments.{key_cmp, IsKey, IsKeyText}
use Rattle.zarrs_store.proofs.Cuts.{key_from_text}
use Rattle.zarrs_load.proofs.Members.{HoldsSoFar, holds_none, first_bad_copy, holds_more, holds_all, no_text}
use Rattle.zarrs_load.proofs.image.store_of.Goals as goal

pub loop-name-init : goal.loop-name-init
loop-name-init c =
    let all = c.args.members.now.entries in
    subst (λ r. HoldsSoFar all r (map.from_entries {R = key_cmp} c.new-store.result)) (sym (c.into_iter-name-iterator.ensures.into_iter_gives ∙ c.iter-name-items.ensures.rest))
    (holds_none all _ (ap (λ s. map.from_entries {R = key_cmp} s) c.new-store.ensures))

pub returns-then-not-validate-clause-err : goal.returns-then-not-validate-clause-err
returns-then-not-validate-clause-err c = (
  view c.in-Some.value.now,
  first_bad_copy c.loop-name.invariant c.next.new.self (c.in-Some.name.now, c.in-Some.value.now) c.in-Some.ensures.steps _ (c.in_ok-name.ensures.ok ∙ c.as_str.ensures.value),
  λ (key : IsKeyText (string_bytes c.in_ok-name.name)).
      let yes : IsTrue c.validate.result = c.validate.ensures.1 (rw c.as_str-in-loop-name.ensures.value key) in
      let no = c.if-not-validate.true in cc,
)

pub returns-in_default-clause-err : goal.returns-in_default-clause-err
returns-in_default-clause-err c =
    let yes : IsTrue c.validate.result = c.if-not-validate.false in
    let key : IsKeyText (string_bytes c.in_ok-name.name) = rw c.as_str-in-loop-name.ensures.value at (c.validate.ensures.0 yes) in (
      view c.in-Some.value.now,
      first_bad_copy c.loop-name.invariant c.next.new.self (c.in-Some.name.now, c.in-Some.value.now) c.in-Some.ensures.steps _ (c.in_ok-name.ensures.ok ∙ c.as_str.ensures.value),
      key,
      no_text (λ s. s.now) _ _ c.in_default.is c.as_str-in-loop-name-2.ensures,
    )

pub loop-name-preserved : goal.loop-name-preserved
loop-name-preserved c =
    let same : string_bytes c.in_ok-name.name ≡ string_bytes c.in-Some.name.now = c.in_ok-name.ensures.ok ∙ c.as_str.ensures.value in
    let yes : IsTrue c.validate.result = c.if-not-validate.false in
    let named : IsKeyText (string_bytes c.in_ok-name.name) = rw c.as_str-in-loop-name.ensures.value at (c.validate.ensures.0 yes) in
    let text : as_str (view c.in-Some.value.now) ≡ Some c.in-Some-as_str.text.now = sym c.as_str-in-loop-name-2.ensures ∙ ap (option_map (λ s. s.now)) c.in-Some-as_str.is in
    let valid : IsKey c.new_unchecked.result = subst IsKey (sym c.new_unchecked.ensures.segments) (key_from_text (string_bytes c.in_ok-name.name) named).0 in
    holds_more c.loop-name.invariant c.next.new.self (c.in-Some.name.now, c.in-Some.value.now) c.in-Some.ensures.steps
    c.iter-name-items.ensures.ordered (subst IsKeyText same named) _ text c.new_unchecked.result valid (c.new_unchecked.ensures.text ∙ same) _
    (c.in_ok-insert.ensures.ok ∙ ap (λ (v : List ℕ). map.insert (map.from_entries {R = key_cmp} c.loop-name.store) c.new_unchecked.result v) (c.in_ok-bytes.ensures.items ∙ c.as_bytes.ensures.value))

pub returns-clause-ok : goal.returns-clause-ok
returns-clause-ok c = holds_all _ _ _ c.loop-name.invariant c.in-None.ensures.steps.0
