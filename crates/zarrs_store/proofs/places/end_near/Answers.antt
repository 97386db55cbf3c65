use Rattle.std.proofs.Common.{rules, ◌≡◌, ◌-◌, ◌/◌, ◌<◌, zero, true, false, arith}
use Rattle.std.specs.Prelude.{min}
use Rattle.zarrs_store.specs.Entries.{is_below}
use Rattle.zarrs_store.proofs.Digits.{galloped_past, galloped_behind, galloped_end, galloped_fits}
use Rattle.zarrs_store.proofs.Ranges.{within_step, behind_step}
use Rattle.zarrs_store.proofs.places.end_near.Goals as goal

pub overflow_add-comparisons : goal.overflow_add-comparisons
overflow_add-comparisons c =
    let h = c.loop-low.invariant in
    omega (arith, galloped_fits _ _ _ h.galloped (omega (arith, h.word, h.inside, h.ordered)))

pub loop-low-preserved-then-is_above : goal.loop-low-preserved-then-is_above
loop-low-preserved-then-is_above c =
    let tested : is_below c.args.prefix.now c.index-entries-middle.result.0 ≡ true = search rules in
    let h = c.loop-low.invariant in
    let found = c.loop-low.low - c.args.first in
    let left = c.loop-low.high - c.loop-low.low in
    let some : zero < left = omega (arith, c.loop-low-test.true) in
    let step : c.min-step.result ≡ min (found - 1) (left / 2) = omega (arith, c.min-step.ensures, c.saturating_sub.ensures) in
    record {
      behind_first = omega (arith, h.behind_first);
      ordered = omega (arith, c.loop-low-test.true, c.min-step.ensures);
      inside = h.inside;
      within = within_step _ c.requires.ascending _ _ _ c.index-entries-middle.is
          (omega (arith, c.loop-low-test.true, h.inside, c.min-step.ensures)) c.requires.valid _ (omega (arith, h.behind_first)) c.requires.from tested;
      behind = h.behind;
      word = h.word;
      galloped = galloped_past c.loop-low.comparisons found left c.min-step.result h.galloped some step
          _ _ (omega (arith, h.behind_first)) (omega (arith, c.loop-low-test.true, c.min-step.ensures));
    }

pub loop-low-preserved : goal.loop-low-preserved
loop-low-preserved c =
    let tested : is_below c.args.prefix.now c.index-entries-middle.result.0 ≡ false = search rules in
    let h = c.loop-low.invariant in
    let found = c.loop-low.low - c.args.first in
    let left = c.loop-low.high - c.loop-low.low in
    let some : zero < left = omega (arith, c.loop-low-test.true) in
    let step : c.min-step.result ≡ min (found - 1) (left / 2) = omega (arith, c.min-step.ensures, c.saturating_sub.ensures) in
    record {
      behind_first = h.behind_first;
      ordered = omega arith;
      inside = omega (arith, c.loop-low-test.true, h.inside, c.min-step.ensures);
      within = h.within;
      behind = behind_step _ c.requires.ascending _ _ _ c.index-entries-middle.is
          (omega (arith, c.loop-low-test.true, h.inside, c.min-step.ensures)) c.requires.valid _ (omega (arith, h.behind_first)) c.requires.from tested;
      word = h.word;
      galloped = galloped_behind c.loop-low.comparisons found left c.min-step.result h.galloped some step _ (omega arith);
    }

pub returns-clause-comparisons : goal.returns-clause-comparisons
returns-clause-comparisons c = galloped_end _ _ _ c.loop-low.invariant.galloped
