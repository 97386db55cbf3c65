use Rattle.std.proofs.Common.{sym, ap, ◌∙◌, ◌==◌}
use Rattle.std.specs.Ordering.{ordering_index}
use Rattle.zarrs_path.specs.PathOrder.{path_ties}
use Rattle.zarrs_path.proofs.LawProofs.{index_is_eq, same_truth, equal_names, equal_order}
use Rattle.zarrs_path.proofs.laws.order_and_equality.Goals as goal

pub returns-clause-holds : goal.returns-clause-holds
returns-clause-holds c =
    let level = ap (λ o. ordering_index o == 1) (sym c.cmp.ensures) in
    same_truth c.eq.result c.eq-2.result (c.eq.ensures ∙ (path_ties c.args.path.now c.args.other.now ∙ (sym (index_is_eq _) ∙ (level ∙ sym c.eq-2.ensures))))

pub returns-clause-agree : goal.returns-clause-agree
returns-clause-agree c =
    let names = equal_names c.args.path.now c.args.other.now in
    let level = equal_order c.args.path.now c.args.other.now in
    (λ e. level.1 (names.0 e), λ l. names.1 (level.0 l))
