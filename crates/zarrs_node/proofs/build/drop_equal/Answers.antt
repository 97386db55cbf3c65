use Rattle.std.proofs.Common.{◌-◌, sym, ap, subst, ◌∙◌, take, length}
use Rattle.zarrs_node.specs.StepsOfTrees.{DropsEqual}
use Rattle.zarrs_node.proofs.Lasts.{drops_last, drops_none}
use Rattle.zarrs_node.proofs.build.drop_equal.Goals as goal

pub returns-then-eq : goal.returns-then-eq
returns-then-eq c = subst (λ l. DropsEqual c.args.path.now l c.pop.new.self.items) c.deref.ensures.value
    (drops_last c.args.path.now c.deref.result.now c.in-Some.last.now c.in-Some.ensures.item.3.0 c.in-Some.ensures.item.1 c.pop.new.self.items c.args.pairs.now.len
    (c.args.pairs.now.ok.0 ∙ sym (ap length c.deref.ensures.value)) (c.pop.ensures.rest ∙ ap (take (c.args.pairs.now.len - 1)) (sym c.deref.ensures.value)) (sym c.eq.ensures ∙ c.if-eq.true))

pub returns-else-eq : goal.returns-else-eq
returns-else-eq c = subst (λ l. DropsEqual c.args.path.now l l) c.deref.ensures.value
    (drops_none c.args.path.now c.deref.result.now c.in-Some.last.now c.in-Some.ensures.item.3.0 c.in-Some.ensures.item.1 (sym c.eq.ensures ∙ c.if-eq.false))
