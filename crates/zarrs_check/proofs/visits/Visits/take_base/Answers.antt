use Rattle.std.proofs.Common.{refl, sym, subst}
use Rattle.zarrs_node.specs.Sinks.{TakesAll}
use Rattle.zarrs_check.specs.StepsOfTaking.{base_nodes}
use Rattle.zarrs_check.specs.StepsOfVisits.{TakesVisit}
use Rattle.zarrs_check.proofs.visits.Visits.take_base.Goals as goal

pub returns-in_ok-take-in-Node-clause-taken : goal.returns-in_ok-take-in-Node-clause-taken
returns-in_ok-take-in-Node-clause-taken g c =
    subst (λ r. TakesAll (TakesVisit g.S.Store.contents g.S.Store.can_fail) c.args.self.now (base_nodes c.args.path r) c.take.new.self) (sym c.in-Node.is)
    (c.take.new.self, c.in_ok-take-in-Node.ensures, refl)
