use Rattle.std.proofs.Common.{◌∙◌, sym}
use Rattle.zarrs_path.specs.PathOrder.{path_decides}
use Rattle.zarrs_check.proofs.block.is_base_group.Goals as goal

pub returns-then-is_group : goal.returns-then-is_group
returns-then-is_group c = (
  λ t. (c.in-Node.metadata, ((path_decides c.args.survey.now.path c.args.path.now).0 (sym c.eq.ensures ∙ t), c.in-Node.is), sym c.is_group.ensures ∙ c.if-is_group.true),
  λ g. c.eq.ensures ∙ (path_decides c.args.survey.now.path c.args.path.now).1 g.1.0,
)
