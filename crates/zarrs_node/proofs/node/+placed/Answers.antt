use Rattle.std.proofs.Common.{◌+◌, ◌*◌, ◌<◌, sym, subst, ◌∙◌, true≢false, arith}
use Rattle.std.proofs.lemmas.Bool.{iff_false}
use Rattle.zarrs_node.specs.StepsOfCounting.{weight, weights}
use Rattle.zarrs_node.proofs.Trees.{not_placed, placed_step, placed_on, placed_off, fewer_around, weight_at}
use Rattle.zarrs_node.proofs.node.+placed.Goals as goal
use Rattle.zarrs_node.proofs.node.+placed.Goals.{are_placed-then-not-is_child-via-then-not-is_child, are_placed-then-not-is_child-via-else-not-is_child+then-not-is_placed}
use Rattle.zarrs_node.proofs.node.+placed.Goals.{is_placed-then-not-are_placed-via-then-not-are_placed, is_placed-then-not-are_placed-via-else-not-are_placed+then-not-is_child}
use Rattle.zarrs_node.proofs.node.+placed.Goals.{is_placed-then-not-are_placed-via-else-not-are_placed+else-not-is_child+then-not-are_placed-2}

pub are_placed-is_placed-requires : goal.are_placed-is_placed-requires
are_placed-is_placed-requires t c =
    let least = weight_at c.args.nodes.now c.loop-node.node-index c.node-item.result c.loop-node-test.true c.node-item.is in
    let less : 2 * weight c.node-item.result < 2 * weights c.args.nodes.now + 1 = omega (arith, least) in
    (subst (λ x. 2 * weight c.node-item.result < x) c.decreases less, tt)

pub are_placed-returns-then-not-is_child : goal.are_placed-returns-then-not-is_child
are_placed-returns-then-not-is_child t c = (
  λ e. absurd (true≢false (sym e)),
  λ h. absurd (not_placed c.args.base.now c.args.nodes.now c.loop-node.node-index c.node-item.result c.loop-node-test.true c.node-item.is c.loop-node.invariant
      (λ child below. elim c.then-not-is_child.branch [
        | are_placed-then-not-is_child-via-then-not-is_child w ↦ iff_false c.is_child.ensures.child w.if-not-is_child.true child
        | are_placed-then-not-is_child-via-else-not-is_child+then-not-is_placed w ↦ iff_false w.is_placed.ensures w.if-not-is_placed.true below
      ]) h),
)

pub are_placed-loop-node-preserved : goal.are_placed-loop-node-preserved
are_placed-loop-node-preserved t c =
    placed_step c.args.base.now c.args.nodes.now c.loop-node.node-index c.node-item.result c.loop-node-test.true c.node-item.is c.loop-node.invariant
    (c.is_child.ensures.child.0 c.if-not-is_child.false) (c.is_placed.ensures.0 c.if-not-is_placed.false)

pub is_placed-returns-then-not-are_placed : goal.is_placed-returns-then-not-are_placed
is_placed-returns-then-not-are_placed t c = (
  λ e. absurd (true≢false (sym e)),
  λ h. absurd (placed_off c.args.root.now c.loop-before.node.now c.in-Some.largest.now c.in-Some.before.now c.in-Some.after.now c.loop-before.invariant.same (sym c.deref.ensures.value ∙ c.in-Some.ensures)
      (λ before child after. elim c.then-not-are_placed.branch [
        | is_placed-then-not-are_placed-via-then-not-are_placed w ↦ iff_false c.are_placed.ensures w.if-not-are_placed.true before
        | is_placed-then-not-are_placed-via-else-not-are_placed+then-not-is_child w ↦ iff_false w.is_child.ensures.child w.if-not-is_child.true child
        | is_placed-then-not-are_placed-via-else-not-are_placed+else-not-is_child+then-not-are_placed-2 w ↦ iff_false w.are_placed-else-not-is_child.ensures w.if-not-are_placed-2.true after
      ]) h),
)

pub is_placed-loop-before-smaller : goal.is_placed-loop-before-smaller
is_placed-loop-before-smaller t c =
    (fewer_around c.args.root.now c.loop-before.node.now c.in-Some.largest.now c.in-Some.before.now c.in-Some.after.now c.loop-before.invariant.same (sym c.deref.ensures.value ∙ c.in-Some.ensures)).2

pub is_placed-loop-before-preserved : goal.is_placed-loop-before-preserved
is_placed-loop-before-preserved t c =
    let cut = sym c.deref.ensures.value ∙ c.in-Some.ensures in
    let less = (fewer_around c.args.root.now c.loop-before.node.now c.in-Some.largest.now c.in-Some.before.now c.in-Some.after.now c.loop-before.invariant.same cut).2 in
    let so_far = c.loop-before.invariant.less in
    record {
      same = placed_on c.args.root.now c.loop-before.node.now c.in-Some.largest.now c.in-Some.before.now c.in-Some.after.now c.loop-before.invariant.same cut
          (c.are_placed.ensures.0 c.if-not-are_placed.false) (c.is_child.ensures.child.0 c.if-not-is_child.false) (c.are_placed-else-not-is_child.ensures.0 c.if-not-are_placed-2.false);
      less = omega (arith, less, so_far);
    }
