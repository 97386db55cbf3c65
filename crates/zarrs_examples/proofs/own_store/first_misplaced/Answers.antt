use Rattle.std.proofs.Common.{◌≡◌, true, false, rules, sym, subst, arith}
use Rattle.std.specs.Ordering.{is_le}
use Rattle.zarrs_store.specs.Segments.{IsKey}
use Rattle.zarrs_store.specs.Places.{text_cmp}
use Rattle.zarrs_examples.proofs.OwnStores.{misplaced, next_step, first_step, all_ascend}
use Rattle.zarrs_examples.proofs.own_store.first_misplaced.Goals as goal
use Rattle.zarrs_examples.proofs.own_store.first_misplaced.Goals.{else-at-gt0-via-then-at-gt0+else-le, else-at-gt0-via-else-at-gt0}

pub returns-then-le-clause-misplaced : goal.returns-then-le-clause-misplaced
returns-then-le-clause-misplaced c =
    let x = c.index-entries-at.result in
    let valid = subst (λ e. IsKey e.0) (sym c.index-entries-at.is) c.as_str-key.ensures.valid in
    let y = c.index-entries-at-then-at-gt0.result in
    let le : is_le (text_cmp x.0 y.0) ≡ true = search rules in
    misplaced c.args.entries.now c.loop-at.at c.loop-at.invariant x c.index-entries-at.is (omega (arith, c.loop-at-test.true)) valid
    y c.index-entries-at-then-at-gt0.is (omega (arith, c.if-at-gt0.true)) le

pub loop-at-preserved : goal.loop-at-preserved
loop-at-preserved c =
    let es = c.args.entries.now in
    let x = c.index-entries-at.result in
    let valid = subst (λ e. IsKey e.0) (sym c.index-entries-at.is) c.as_str-key.ensures.valid in
    elim c.else-at-gt0.branch [
      | else-at-gt0-via-then-at-gt0+else-le w ↦
          let y = w.index-entries-at-then-at-gt0.result in
          let greater : is_le (text_cmp x.0 y.0) ≡ false = search rules in
          next_step es c.loop-at.at c.loop-at.invariant x c.index-entries-at.is (omega (arith, c.loop-at-test.true)) valid
          y w.index-entries-at-then-at-gt0.is greater
      | else-at-gt0-via-else-at-gt0 w ↦
          first_step es c.loop-at.at c.loop-at.invariant x c.index-entries-at.is (omega (arith, c.loop-at-test.true)) valid
          (λ later. omega (arith, later, w.if-at-gt0.false))
    ]

pub returns-clause-ascending : goal.returns-clause-ascending
returns-clause-ascending c = all_ascend c.args.entries.now c.loop-at.at c.loop-at.auto.at-end c.loop-at-test.false c.loop-at.invariant
