use Rattle.std.proofs.Common.{◌≡◌, true, false, rules, sym, subst, ◌∙◌}
use Rattle.std.specs.declared.cmp.Ordering.TheVariants.{Greater}
use Rattle.std.specs.Map.{keys_of}
use Rattle.std.proofs.lemmas.List.{get_or_default}
use Rattle.zarrs_store.specs.Segments.{Segments, bytes_eq, key_text}
use Rattle.zarrs_store.specs.Places.{AreAscending, text_cmp}
use Rattle.zarrs_examples.specs.OwnStores.{StandsBehind}
use Rattle.zarrs_examples.specs.StepsOfOwnStores.{IsMisplaced}
use Rattle.zarrs_examples.proofs.OwnStores.{shown_ascend, doubled, unordered}
use Rattle.zarrs_examples.proofs.own_store.ListStore.new.Goals as goal

-- all entries ascend
pub returns-in_default-clause-ascending : goal.returns-in_default-clause-ascending
returns-in_default-clause-ascending c =
    shown_ascend (λ v. v.items) c.args.entries.items (subst AreAscending c.deref.ensures.value c.in_default.ensures.ascending)

-- the key is the one before it
pub returns-then-is_double-clause-refused : goal.returns-then-is_double-clause-refused
returns-then-is_double-clause-refused c =
    let es = c.args.entries.items in
    let x = c.index-2.result.now in
    let y = c.index.result.now in
    let m : IsMisplaced es c.in-Some.at = subst (λ es. IsMisplaced es c.in-Some.at) c.deref.ensures.value c.in-Some.ensures.misplaced in
    let same : bytes_eq (key_text y.0) (key_text x.0) ≡ true = search rules in
    let taken : x ≡ c.swap_remove-key.result = c.index-2.ensures ∙ get_or_default es c.in-Some.at x c.swap_remove-key.result m.inside ∙ sym c.swap_remove-key.ensures.value in
    subst (λ e. StandsBehind (keys_of es) e.0 e.0) taken (doubled es c.in-Some.at m y x c.index.ensures c.index-2.ensures same)

-- the key is smaller than the one before it
pub returns-clause-refused : goal.returns-clause-refused
returns-clause-refused c =
    let es = c.args.entries.items in
    let x = c.index-2.result.now in
    let y = c.index.result.now in
    let m : IsMisplaced es c.in-Some.at = subst (λ es. IsMisplaced es c.in-Some.at) c.deref.ensures.value c.in-Some.ensures.misplaced in
    let apart : bytes_eq (key_text y.0) (key_text x.0) ≡ false = search rules in
    let taken : x ≡ c.swap_remove-key.result = c.index-2.ensures ∙ get_or_default es c.in-Some.at x c.swap_remove-key.result m.inside ∙ sym c.swap_remove-key.ensures.value in
    subst (λ e. (last : Segments) × StandsBehind (keys_of es) last e.0 × (text_cmp last e.0 ≡ Greater)) taken
    (unordered es c.in-Some.at m y x c.index.ensures c.index-2.ensures apart)
