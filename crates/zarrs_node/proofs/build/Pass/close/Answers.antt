use Rattle.std.proofs.Common.{sym, ap, ◌∙◌}
use Rattle.zarrs_node.specs.StepsOfTrees.{whole, with_tree}
use Rattle.zarrs_node.proofs.OpenGroups.{closed_last, remade}
use Rattle.zarrs_node.proofs.build.Pass.close.Goals as goal

pub returns-in_ok-add-clause-same : goal.returns-in_ok-add-clause-same
returns-in_ok-add-clause-same c =
    c.in_ok-add.ensures.grows
    ∙ ap (with_tree c.args.self.now.roots.items c.pop.new.self.items)
    (remade c.in-Some.group c.new_with_metadata.result _ _ _ c.into_parts-path.ensures.path c.into_parts-path.ensures.metadata c.into_parts-path.ensures.children c.new_with_metadata.ensures.tree)
    ∙ sym (ap (whole c.args.self.now.roots.items) c.in-Some.ensures.items ∙ closed_last c.args.self.now.roots.items c.pop.new.self.items c.in-Some.group)
