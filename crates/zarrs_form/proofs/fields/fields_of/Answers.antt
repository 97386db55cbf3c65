use Rattle.std.proofs.Common.{◌≡◌, [], ◌∷◌, ◌++◌, map, true, false, string_bytes, sym, ap, ◌∙◌, subst, append_assoc}
use Rattle.std.proofs.lemmas.List.{append-nil}
use Rattle.serde_json.specs.View.{view, members_of}
use Rattle.serde_json.proofs.Views.{Entry}
use Rattle.zarrs_form.specs.Documents.{is_own}
use Rattle.zarrs_form.specs.SortedMembers.{NamesAscend}
use Rattle.zarrs_form.proofs.SortedLaws.{kept, kept_ascend, kept_first, members_kept, own_first}
use Rattle.zarrs_form.proofs.fields.fields_of.Goals as goal

pub loop-name-preserved-in-Continue-1 : goal.loop-name-preserved-in-Continue-1
loop-name-preserved-in-Continue-1 c =
    let done = c.loop-name.entries.items in
    let e : Entry = (c.in-Some.name, c.in-Some.value) in
    let left = c.next.new.self in
    let names = map (λ name. name.now) c.args.own_names.now in
    let other : is_own names (string_bytes e.0) ≡ false = ap (is_own names) (sym c.as_str.ensures.value) ∙ sym c.is_one_of.ensures ∙ c.if-not-is_one_of.true in
    ap (λ es. es ++ kept names left) c.in_ok-push.ensures.items ∙ append_assoc done ((e.0, view e.1) ∷ []) (kept names left)
    ∙ ap (λ es. done ++ es) (sym (kept_first names e left other) ∙ ap (kept names) (sym c.in-Some.ensures.steps)) ∙ c.loop-name.invariant

pub loop-name-preserved : goal.loop-name-preserved
loop-name-preserved c =
    let done = c.loop-name.entries.items in
    let e : Entry = (c.in-Some.name, c.in-Some.value) in
    let left = c.next.new.self in
    let names = map (λ name. name.now) c.args.own_names.now in
    let own : is_own names (string_bytes e.0) ≡ true = ap (is_own names) (sym c.as_str.ensures.value) ∙ sym c.is_one_of.ensures ∙ c.if-not-is_one_of.false in
    ap (λ es. done ++ es) (sym (own_first names e left own) ∙ ap (kept names) (sym c.in-Some.ensures.steps)) ∙ c.loop-name.invariant

pub returns : goal.returns
returns c =
    let done = c.loop-name.entries.items in
    let names = map (λ name. name.now) c.args.own_names.now in
    let all : done ≡ kept names c.args.members.entries = sym (append-nil done) ∙ ap (λ es. done ++ kept names es) (sym c.in-None.ensures.steps.0) ∙ c.loop-name.invariant in
    ap members_of (c.shrink_to_fit.ensures.items ∙ all) ∙ members_kept names c.args.members.entries

pub invariant_of-result : goal.invariant_of-result
invariant_of-result c =
    let done = c.loop-name.entries.items in
    let names = map (λ name. name.now) c.args.own_names.now in
    let all : done ≡ kept names c.args.members.entries = sym (append-nil done) ∙ ap (λ es. done ++ kept names es) (sym c.in-None.ensures.steps.0) ∙ c.loop-name.invariant in
    subst NamesAscend (sym (c.shrink_to_fit.ensures.items ∙ all)) (kept_ascend names c.args.members.entries c.into_iter-name-iterator.ensures.into_iter_gives.5)
