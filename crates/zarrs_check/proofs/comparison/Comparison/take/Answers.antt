use Rattle.std.proofs.Common.{◌∷◌, length, refl, ap, arith}
use Rattle.std.proofs.lemmas.Result.{on_ok_weaker}
use Rattle.zarrs_check.proofs.UnderWay.{on_the_way_first, on_the_way_next, passed_at, passed_behind}
use Rattle.zarrs_check.proofs.comparison.Comparison.take.Goals as goal

pub loop-entry-init : goal.loop-entry-init
loop-entry-init c = on_the_way_first c.args.self.now (λ ns. (c.args.path.now, c.args.metadata.now) ∷ ns)

pub loop-entry-smaller : goal.loop-entry-smaller
loop-entry-smaller c = omega (arith, ap length c.in-Before.ensures.turn.0, ap length c.in_ok-tell_lone-in-Before.ensures.entries)

pub loop-entry-preserved : goal.loop-entry-preserved
loop-entry-preserved c = on_the_way_next c.args.self.now c.loop-entry.self c.next_turn.new.self c.tell_lone.new.self c.in-Before.ensures.unmoved (λ ns. (c.args.path.now, c.args.metadata.now) ∷ ns) c.loop-entry.invariant
    c.in-Before.entry c.in-Before.ensures.turn.0 (λ ns. c.in-Before.ensures.turn.1) c.in_ok-tell_lone-in-Before.ensures

pub returns-in-At : goal.returns-in-At
returns-in-At c = on_ok_weaker c.tell_pair.result (passed_at c.args.self.now c.loop-entry.self c.next_turn.new.self c.tell_pair.new.self c.in-At.ensures.unmoved (c.args.path.now, c.args.metadata.now) c.loop-entry.invariant
    c.in-At.entry c.in-At.ensures.turn) c.tell_pair.ensures

pub returns-in-Behind : goal.returns-in-Behind
returns-in-Behind c = on_ok_weaker c.tell.result (passed_behind c.args.self.now c.loop-entry.self c.next_turn.new.self _ c.in-Behind.ensures.unmoved (c.args.path.now, c.args.metadata.now) c.loop-entry.invariant
    c.in-Behind.ensures.turn (record { group = refl; of_block = refl }) refl refl) c.tell.ensures
