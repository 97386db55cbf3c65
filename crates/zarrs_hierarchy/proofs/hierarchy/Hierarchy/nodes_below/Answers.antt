use Rattle.std.proofs.Common.{sym, ap, subst, ◌∙◌}
use Rattle.zarrs_node.specs.Order.{Ascend}
use Rattle.zarrs_hierarchy.specs.StepsOfHierarchies.{IsBehind}
use Rattle.zarrs_hierarchy.specs.Tree.{pairs_below}
use Rattle.zarrs_hierarchy.proofs.Below.{behind_ascend, behind_has, below_ascend, each_behind}
use Rattle.zarrs_hierarchy.proofs.hierarchy.Hierarchy.nodes_below.Goals as goal

pub end_below-end-requires-clause-ascending : goal.end_below-end-requires-clause-ascending
end_below-end-requires-clause-ascending c = subst Ascend (sym c.behind-behind.ensures.behind) (behind_ascend c.args.path.now c.args.self.now c.behind-behind.ensures.ordered)

pub end_below-end-requires-clause-behind : goal.end_below-end-requires-clause-behind
end_below-end-requires-clause-behind c = subst (IsBehind c.args.path.now) (sym c.behind-behind.ensures.behind) (each_behind c.args.path.now c.args.self.now)

pub returns-clause-pairs : goal.returns-clause-pairs
returns-clause-pairs c = c.end_below-end.ensures.below ∙ ap (pairs_below c.args.path.now) c.behind-behind.ensures.behind ∙ behind_has c.args.path.now c.args.self.now

pub returns-clause-ordered : goal.returns-clause-ordered
returns-clause-ordered c = subst Ascend (sym (c.end_below-end.ensures.below ∙ ap (pairs_below c.args.path.now) c.behind-behind.ensures.behind ∙ behind_has c.args.path.now c.args.self.now)) (below_ascend c.args.path.now c.args.self.now c.behind-behind.ensures.ordered)
