use Rattle.std.proofs.Common.{Ok, Err, length, ◌∷◌, [], ◌++◌, sym, ap, subst, ◌∙◌}
use Rattle.zarrs_check.specs.StepsOfChecks.{shown_block}
use Rattle.zarrs_check.specs.StepsOfTaking.{IsBegun, places_after}
use Rattle.zarrs_check.proofs.comparisons.Comparisons.put_block.Goals.{in-Ok+in_ok-push-in-Ok+in_ok-block-in-Ok, in-Err+in_ok-block-in-Err}
use Rattle.zarrs_check.proofs.comparisons.Comparisons.put_block.Goals as goal

pub returns-clause-put : goal.returns-clause-put
returns-clause-put g c = elim c.match-block.branch [
  | in-Ok+in_ok-push-in-Ok+in_ok-block-in-Ok w ↦
      let old = c.args.self.now in
      record {
        block = c.match-block.block;
        begun = subst (λ r. IsBegun c.args.path (shown_block r) c.match-block.block) (sym w.in-Ok.is) (subst (IsBegun c.args.path (shown_block (Ok (w.in-Ok.block, w.in-Ok.other)))) (sym w.block-is) w.in_ok-block-in-Ok.ensures);
        items = c.in_ok-push.ensures.items ∙ ap (λ x. x.blocks.items ++ c.match-block.block ∷ []) w.self-is;
        places_are = ap (λ x. x.above.items) w.self-is ∙ w.in_ok-push-in-Ok.ensures.items ∙ ap (λ n. old.above.items ++ n ∷ []) (w.len.ensures ∙ old.blocks.ok.0)
            ∙ sym (ap (λ r. places_after old.above.items (length old.blocks.items) (shown_block r)) w.in-Ok.is);
      }
  | in-Err+in_ok-block-in-Err w ↦
      let old = c.args.self.now in
      record {
        block = c.match-block.block;
        begun = subst (λ r. IsBegun c.args.path (shown_block r) c.match-block.block) (sym w.in-Err.is) (subst (IsBegun c.args.path (shown_block (Err w.in-Err.fault))) (sym w.block-is) w.in_ok-block-in-Err.ensures);
        items = c.in_ok-push.ensures.items ∙ ap (λ x. x.blocks.items ++ c.match-block.block ∷ []) w.self-is;
        places_are = ap (λ x. x.above.items) w.self-is ∙ sym (ap (λ r. places_after old.above.items (length old.blocks.items) (shown_block r)) w.in-Err.is);
      }
]
