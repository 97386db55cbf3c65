use Rattle.std.proofs.Common.{◌≡◌, ◌-◌, Some, length, sym, ◌∙◌, ap, subst}
use Rattle.std.specs.List.{slice_get}
use Rattle.std.specs.Map.{keys_of}
use Rattle.std.specs.declared.cmp.Ordering.TheVariants.{Less}
use Rattle.zarrs_store.specs.Places.{IsKeyGap, text_cmp}
use Rattle.zarrs_store.proofs.PlaceLemmas.{less_of, gap_behind, behind_last}
use Rattle.zarrs_store.proofs.memory_store.MemoryStore.place.Goals as goal

pub returns-then-lt-clause-absent : goal.returns-then-lt-clause-absent
returns-then-lt-clause-absent c =
    let es = c.self.inside.entries.items in
    let key = c.args.key.now in
    let last : Some c.in-Some.field-0.now ≡ slice_get es (length es - 1) = c.in-Some.ensures.value ∙ ap (λ s. slice_get s (length s - 1)) c.deref.ensures.value in
    let less : text_cmp c.in-Some.field-0.now.0 key ≡ Less = less_of _ (sym c.lt.ensures ∙ c.if-lt.true) in
    let long : length es ≡ c.len.result = sym (ap length c.deref.ensures.value) ∙ c.deref.ensures.len ∙ sym c.len.ensures in
    subst (λ n. IsKeyGap (keys_of c.args.self.now) key n) long
    (subst (λ s. IsKeyGap (keys_of s) key (length es)) c.self.view_is (gap_behind (λ v. v.items) es c.self.invariant key (behind_last es c.self.invariant key c.in-Some.field-0.now last less)))
