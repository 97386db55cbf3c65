use Rattle.std.proofs.Common.{rules, [], length, refl, ap, arith}
use Rattle.std.proofs.lemmas.List.{nil_from_length}
use Rattle.zarrs_check.proofs.UnderWay.{on_the_way_first, on_the_way_next, at_end}
use Rattle.zarrs_check.proofs.comparison.Comparison.tell_rest.Goals as goal

pub loop-entry-init : goal.loop-entry-init
loop-entry-init c = on_the_way_first c.args.self.now (λ ns. [])

pub loop-entry-smaller : goal.loop-entry-smaller
loop-entry-smaller c = omega (arith, ap length c.in-Some.ensures.items, ap length c.in_ok-tell_lone.ensures.entries)

pub loop-entry-preserved : goal.loop-entry-preserved
loop-entry-preserved c = on_the_way_next c.args.self.now c.loop-entry.self (record c.loop-entry.self { entries = c.pop_front.new.self }) c.tell_lone.new.self
    (record { one = record { group = refl; of_block = refl }; last = refl; found = refl }) (λ ns. []) c.loop-entry.invariant c.in-Some.entry c.in-Some.ensures.items (λ ns. tt) c.in_ok-tell_lone.ensures

pub returns : goal.returns
returns c =
    let was = c.loop-entry.self in
    at_end c.args.self.now was (record was { entries = c.pop_front.new.self }) (record { one = record { group = refl; of_block = refl }; last = refl; found = refl }) c.loop-entry.invariant (nil_from_length was.entries.items (search rules))
