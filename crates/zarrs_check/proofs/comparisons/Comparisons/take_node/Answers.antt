use Rattle.std.proofs.Common.{Some, sym, ap, subst, ◌∙◌}
use Rattle.zarrs_meaning.specs.Meaning.{Pair}
use Rattle.zarrs_check.specs.StepsOfChecks.{as_known, block_with_own, shown_block}
use Rattle.zarrs_check.specs.StepsOfTaking.{AreCompared, MayPutBlock, PlacesAscend}
use Rattle.zarrs_check.proofs.comparisons.Comparisons.take_node.Goals.{in-Some-2+in_ok-put_block, in_default-2}
use Rattle.zarrs_check.proofs.comparisons.Comparisons.take_node.Goals as goal

pub returns-clause-ok : goal.returns-clause-ok
returns-clause-ok g c =
    let closed = c.close.ensures.closed in
    let e : Pair = (c.args.path, c.args.metadata) in
    let mid = c.close.new.self.above.items in
    let blocks = c.compare_all.new.blocks.items in
    let read = c.in_ok-block.ensures.ok ∙ ap (λ x. block_with_own (g.S.Store.contents x) c.args.path c.args.metadata) c.close.ensures.storage in
    record {
      count = c.in-Some.ensures.1;
      «above» = mid;
      gone = closed.gone;
      closes = closed.above;
      not_above = closed.not_above;
      blocks = blocks;
      compared = subst (λ js. PlacesAscend js → AreCompared js e c.args.self.now.blocks.items blocks) c.deref.ensures.value
          (subst (λ bs. PlacesAscend c.deref.result.now → AreCompared c.deref.result.now e bs blocks) closed.blocks c.in_ok-compare_all.ensures);
      puts = elim c.match-branch-3.branch [
        | in-Some-2+in_ok-put_block w ↦
            subst (λ o. MayPutBlock blocks mid c.args.path o c.match-branch-3.self.blocks.items c.match-branch-3.self.above.items) (sym (ap as_known w.in-Some-2.is) ∙ read)
            (subst (λ x. MayPutBlock blocks mid c.args.path (Some (shown_block w.in-Some-2.block)) x.blocks.items x.above.items) (sym w.self-is) w.in_ok-put_block.ensures.put)
        | in_default-2 w ↦
            subst (λ o. MayPutBlock blocks mid c.args.path o c.match-branch-3.self.blocks.items c.match-branch-3.self.above.items) (sym (ap as_known w.in_default-2.is) ∙ read)
            (ap (λ x. x.blocks.items) w.self-is, ap (λ x. x.above.items) w.self-is)
      ];
    }
