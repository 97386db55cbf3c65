use Rattle.std.proofs.Common.{rules, ◌≡◌, arith}
use Rattle.std.specs.declared.cmp.Ordering.TheVariants.{Less, Equal, Greater}
use Rattle.zarrs_store.specs.Places.{text_cmp}
use Rattle.zarrs_store.proofs.Digits.{halved_step, halved_end, halved_fits}
use Rattle.zarrs_store.proofs.PlaceLemmas.{smaller_step, greater_step, found_there, gap_there}
use Rattle.zarrs_store.proofs.places.place_of.Goals as goal

pub overflow_add-comparisons : goal.overflow_add-comparisons
overflow_add-comparisons c = omega (arith, halved_fits _ _ _ c.loop-low.invariant.halved c.loop-low.invariant.word)

pub loop-low-preserved-in-Less : goal.loop-low-preserved-in-Less
loop-low-preserved-in-Less c =
    let compared : text_cmp c.index-entries-middle.result.0 c.args.key.now ≡ Less = search rules in
    let h = c.loop-low.invariant in
    record {
      ordered = omega (arith, c.loop-low-test.true);
      inside = h.inside;
      smaller = smaller_step _ c.requires.ascending c.args.key.now _ _ c.index-entries-middle.is (omega (arith, c.loop-low-test.true, h.inside)) compared;
      greater = h.greater;
      word = h.word;
      halved = halved_step _ _ _ _ h.halved (omega (arith, c.loop-low-test.true)) (omega (arith, c.loop-low-test.true));
    }

pub returns-in-Equal-clause-found : goal.returns-in-Equal-clause-found
returns-in-Equal-clause-found c =
    let compared : text_cmp c.index-entries-middle.result.0 c.args.key.now ≡ Equal = search rules in
    found_there _ c.requires.ascending c.args.key.now _ _ c.index-entries-middle.is (omega (arith, c.loop-low-test.true, c.loop-low.invariant.inside)) c.requires.valid compared

pub returns-in-Equal-clause-comparisons : goal.returns-in-Equal-clause-comparisons
returns-in-Equal-clause-comparisons c = halved_end _ _ 0 (halved_step _ _ _ 0 c.loop-low.invariant.halved (omega (arith, c.loop-low-test.true)) (omega arith))

pub loop-low-preserved : goal.loop-low-preserved
loop-low-preserved c =
    let compared : text_cmp c.index-entries-middle.result.0 c.args.key.now ≡ Greater = search rules in
    let h = c.loop-low.invariant in
    record {
      ordered = omega (arith, c.loop-low-test.true);
      inside = omega (arith, c.loop-low-test.true, h.inside);
      smaller = h.smaller;
      greater = greater_step _ c.requires.ascending c.args.key.now _ _ c.index-entries-middle.is (omega (arith, c.loop-low-test.true, h.inside)) compared;
      word = h.word;
      halved = halved_step _ _ _ _ h.halved (omega (arith, c.loop-low-test.true)) (omega (arith, c.loop-low-test.true));
    }

pub returns-clause-absent : goal.returns-clause-absent
returns-clause-absent c =
    let h = c.loop-low.invariant in
    gap_there _ _ _ _ h.ordered c.loop-low-test.false h.inside h.smaller h.greater

pub returns-clause-comparisons : goal.returns-clause-comparisons
returns-clause-comparisons c = halved_end _ _ _ c.loop-low.invariant.halved
