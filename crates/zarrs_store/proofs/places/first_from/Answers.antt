use Rattle.std.proofs.Common.{rules, ◌≡◌, true, false, arith}
use Rattle.zarrs_store.proofs.Digits.{halved_step, halved_end, halved_fits}
use Rattle.zarrs_store.proofs.Ranges.{is_before, before_step, from_step}
use Rattle.zarrs_store.proofs.places.first_from.Goals as goal

pub overflow_add-comparisons : goal.overflow_add-comparisons
overflow_add-comparisons c = omega (arith, halved_fits _ _ _ c.loop-low.invariant.halved c.loop-low.invariant.word)

pub loop-low-preserved-then-lt : goal.loop-low-preserved-then-lt
loop-low-preserved-then-lt c =
    let h = c.loop-low.invariant in
    let before : is_before c.args.prefix.now c.index-entries-middle.result.0 ≡ true = search rules in
    record {
      ordered = omega (arith, c.loop-low-test.true);
      inside = h.inside;
      before = before_step _ c.requires.ascending _ _ _ c.index-entries-middle.is (omega (arith, c.loop-low-test.true, h.inside)) before;
      from = h.from;
      word = h.word;
      halved = halved_step _ _ _ _ h.halved (omega (arith, c.loop-low-test.true)) (omega (arith, c.loop-low-test.true));
    }

pub loop-low-preserved : goal.loop-low-preserved
loop-low-preserved c =
    let h = c.loop-low.invariant in
    let from : is_before c.args.prefix.now c.index-entries-middle.result.0 ≡ false = search rules in
    record {
      ordered = omega (arith, c.loop-low-test.true);
      inside = omega (arith, c.loop-low-test.true, h.inside);
      before = h.before;
      from = from_step _ c.requires.ascending _ _ _ c.index-entries-middle.is (omega (arith, c.loop-low-test.true, h.inside)) from;
      word = h.word;
      halved = halved_step _ _ _ _ h.halved (omega (arith, c.loop-low-test.true)) (omega (arith, c.loop-low-test.true));
    }

pub returns-clause-comparisons : goal.returns-clause-comparisons
returns-clause-comparisons c = halved_end _ _ _ c.loop-low.invariant.halved

pub returns-clause-few : goal.returns-clause-few
returns-clause-few c = halved_fits _ _ _ c.loop-low.invariant.halved c.loop-low.invariant.word
