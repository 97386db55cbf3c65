use Rattle.std.proofs.Common.{sym, subst, ◌∙◌}
use Rattle.zarrs_path.specs.Names.{IsNodeName}
use Rattle.zarrs_node.proofs.blocks.LastNames.{last_is_name}
use Rattle.zarrs_node.proofs.node.Node.name.Goals as goal

pub new_unchecked-requires : goal.new_unchecked-requires
new_unchecked-requires c =
    subst IsNodeName (sym (c.in_ok-name.ensures.ok ∙ c.last_name.ensures.name)) (last_is_name c.path.result.now c.last_name.ensures.valid)
