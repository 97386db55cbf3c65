use Rattle.std.proofs.Common.{◌≡◌, ◌-◌, ◌∷◌, take, length, sym, ap, subst, ◌∙◌, arith, true≢false, length-append, []}
use Rattle.zarrs_path.specs.Paths.{IsBelow}
use Rattle.zarrs_node.specs.StepsOfTrees.{heads, top}
use Rattle.zarrs_node.proofs.OpenGroups.{top_last, heads_left}
use Rattle.zarrs_node.proofs.PassSteps.{closing_more, closing_done}
use Rattle.zarrs_node.proofs.build.Pass.close_to.Goals as goal

pub loop-group-preserved : goal.loop-group-preserved
loop-group-preserved c =
    let at : heads c.deref.result.now ≡ heads c.loop-group.self.opened.items = ap (λ l. heads l) c.deref.ensures.value in
    let parts = heads_left c.deref.result.now c.in-Some.group.now (heads c.close.new.self.opened.items) c.in-Some.ensures.item.3.0 c.in-Some.ensures.item.1 (c.in_ok-close.ensures.heads ∙ sym (ap (λ l. take (length l - 1) l) at)) in
    let more = ap (λ l. length l) (sym at ∙ parts) ∙ length-append (heads c.close.new.self.opened.items) (_ ∷ []) in
    record {
      same = c.in_ok-close.ensures.same ∙ c.loop-group.invariant.same;
      closing = closing_more _ _ _ _ _ c.loop-group.invariant.closing (sym at ∙ parts) (λ low. true≢false (sym (c.is_below.ensures.below.1 low) ∙ c.if-is_below.false));
      count = omega (arith, more, c.loop-group.invariant.count);
    }

pub returns-then-is_below-clause-closed : goal.returns-then-is_below-clause-closed
returns-then-is_below-clause-closed c = closing_done _ _ _ c.loop-group.invariant.closing
    (λ b _. subst (λ x. IsBelow x c.args.path.now)
    (sym (top_last b c.deref.result.now c.in-Some.group.now c.in-Some.ensures.item.3.0 c.in-Some.ensures.item.1) ∙ ap (λ l. top b (heads l)) c.deref.ensures.value)
    (c.is_below.ensures.below.0 c.if-is_below.true))
