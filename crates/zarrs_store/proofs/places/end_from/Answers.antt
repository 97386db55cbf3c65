use Rattle.std.proofs.Common.{rules, ◌≡◌, true, false, arith}
use Rattle.zarrs_store.specs.Entries.{is_below}
use Rattle.zarrs_store.proofs.Digits.{halved_step, halved_end, halved_fits}
use Rattle.zarrs_store.proofs.Ranges.{within_step, behind_step}
use Rattle.zarrs_store.proofs.places.end_from.Goals as goal

pub overflow_add-comparisons : goal.overflow_add-comparisons
overflow_add-comparisons c = omega (arith, halved_fits _ _ _ c.loop-low.invariant.halved c.loop-low.invariant.word)

pub loop-low-preserved-then-is_above : goal.loop-low-preserved-then-is_above
loop-low-preserved-then-is_above c =
    let tested : is_below c.args.prefix.now c.index-entries-middle.result.0 ≡ true = search rules in
    let h = c.loop-low.invariant in
    record {
      behind_first = omega (arith, h.behind_first);
      ordered = omega (arith, c.loop-low-test.true);
      inside = h.inside;
      within = within_step _ c.requires.ascending _ _ _ c.index-entries-middle.is (omega (arith, c.loop-low-test.true, h.inside)) c.requires.valid _ (omega (arith, h.behind_first)) c.requires.from tested;
      behind = h.behind;
      word = h.word;
      halved = halved_step _ _ _ _ h.halved (omega (arith, c.loop-low-test.true)) (omega (arith, c.loop-low-test.true));
    }

pub loop-low-preserved : goal.loop-low-preserved
loop-low-preserved c =
    let tested : is_below c.args.prefix.now c.index-entries-middle.result.0 ≡ false = search rules in
    let h = c.loop-low.invariant in
    record {
      behind_first = h.behind_first;
      ordered = omega (arith, c.loop-low-test.true);
      inside = omega (arith, c.loop-low-test.true, h.inside);
      within = h.within;
      behind = behind_step _ c.requires.ascending _ _ _ c.index-entries-middle.is (omega (arith, c.loop-low-test.true, h.inside)) c.requires.valid _ (omega (arith, h.behind_first)) c.requires.from tested;
      word = h.word;
      halved = halved_step _ _ _ _ h.halved (omega (arith, c.loop-low-test.true)) (omega (arith, c.loop-low-test.true));
    }

pub returns-clause-comparisons : goal.returns-clause-comparisons
returns-clause-comparisons c = halved_end _ _ _ c.loop-low.invariant.halved

pub returns-clause-few : goal.returns-clause-few
returns-clause-few c = halved_fits _ _ _ c.loop-low.invariant.halved c.loop-low.invariant.word
