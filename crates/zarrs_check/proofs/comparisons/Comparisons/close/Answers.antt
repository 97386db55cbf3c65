use Rattle.std.proofs.Common.{◌≡◌, ◌∷◌, [], ◌++◌, ◌-◌, length, get_or, ap, refl, sym, subst, ◌∙◌, append-nil, arith, true≢false, ⊎_elim}
use Rattle.std.proofs.lemmas.List.{length_push}
use Rattle.zarrs_node.proofs.Order.{contains_cases}
use Rattle.zarrs_check.specs.StepsOfTaking.{IsAboveAt}
use Rattle.zarrs_check.proofs.Places.{popped, last_popped, last_is, more_gone}
use Rattle.zarrs_check.proofs.comparisons.Comparisons.close.Goals as goal

pub loop-place-init : goal.loop-place-init
loop-place-init g c = (record { blocks = refl; gone = _; above = sym (append-nil _); not_above = λ j in'. absurd (omega (arith, in'.1)) }, refl, refl, refl)

pub returns-then-is_above-clause-closed : goal.returns-then-is_above-clause-closed
returns-then-is_above-clause-closed g c = c.loop-place.invariant.0

pub returns-then-is_above-clause-last : goal.returns-then-is_above-clause-last
returns-then-is_above-clause-last g c = λ is j whole.
    let last : j ≡ c.in-Some.place.now = last_is c.loop-place.self.above.items is j c.in-Some.place.now whole
    (subst (λ xs. c.in-Some.place.now ≡ get_or xs (length xs - 1) c.in-Some.place.now) c.deref.ensures.value c.in-Some.ensures.item.1) in
    subst (λ x. IsAboveAt c.args.self.now.blocks.items x c.args.path.now) (sym last)
    (subst (λ bs. IsAboveAt bs c.in-Some.place.now c.args.path.now) c.loop-place.invariant.0.blocks (c.is_above.ensures.0 c.if-is_above.true))

pub returns-then-is_above-clause-count : goal.returns-then-is_above-clause-count
returns-then-is_above-clause-count g c = c.loop-place.invariant.1

pub returns-then-is_above-clause-outcome : goal.returns-then-is_above-clause-outcome
returns-then-is_above-clause-outcome g c = c.loop-place.invariant.2

pub returns-then-is_above-clause-storage : goal.returns-then-is_above-clause-storage
returns-then-is_above-clause-storage g c = c.loop-place.invariant.3

pub loop-place-preserved : goal.loop-place-preserved
loop-place-preserved g c =
    let h = c.loop-place.invariant.0 in
    let is : c.loop-place.self.above.items ≡ c.pop.new.self.items ++ c.in-Some.place.now ∷ [] = popped c.loop-place.self.above.items c.pop.new.self.items c.pop.result c.in-Some.place.now c.pop.ensures.items (last_popped c.loop-place.self.above.items _ c.pop.result c.in-Some.place.now c.loop-place.self.above.ok.0 (let some = c.in-Some.ensures.item.3.0 in let same = ap length c.deref.ensures.value in let size = c.loop-place.self.above.ok.0 in omega (arith, some, same, size)) c.pop.ensures.value
    (subst (λ xs. c.in-Some.place.now ≡ get_or xs (length xs - 1) c.in-Some.place.now) c.deref.ensures.value c.in-Some.ensures.item.1)) in (
      record {
        blocks = h.blocks;
        gone = c.in-Some.place.now ∷ h.gone;
        above = more_gone c.args.self.now.above.items c.loop-place.self.above.items c.pop.new.self.items h.gone c.in-Some.place.now h.above is;
        not_above = λ j in'. ⊎_elim
            (λ same at. true≢false (sym (c.is_above.ensures.1 (subst (λ x. IsAboveAt c.loop-place.self.blocks.items x c.args.path.now) (sym same) (subst (λ bs. IsAboveAt bs j c.args.path.now) (sym h.blocks) at))) ∙ c.if-is_above.false))
            (λ later. h.not_above j later)
            (contains_cases c.in-Some.place.now h.gone j in');
      },
      c.loop-place.invariant.1,
      c.loop-place.invariant.2,
      c.loop-place.invariant.3,
    )

pub returns-clause-closed : goal.returns-clause-closed
returns-clause-closed g c = c.loop-place.invariant.0

pub returns-clause-last : goal.returns-clause-last
returns-clause-last g c = λ is j whole. absurd
    (let none = c.in_default.ensures.item.3 in let same = ap length c.deref.ensures.value in let size = ap length whole in let long = length_push is j in omega (arith, none, same, size, long))

pub returns-clause-count : goal.returns-clause-count
returns-clause-count g c = c.loop-place.invariant.1

pub returns-clause-outcome : goal.returns-clause-outcome
returns-clause-outcome g c = c.loop-place.invariant.2

pub returns-clause-storage : goal.returns-clause-storage
returns-clause-storage g c = c.loop-place.invariant.3
