use Rattle.std.proofs.Common.{string_bytes}
use Rattle.zarrs_node.proofs.TreeTexts.{first_written, line_written}
use Rattle.zarrs_node.proofs.walk.WalkPrefixes.{took_node}
use Rattle.zarrs_node.proofs.node.Node.hierarchy_tree.Goals as goal

pub loop-walk-init : goal.loop-walk-init
loop-walk-init c =
    first_written c.args.self.now (string_bytes c.new-text.result) (string_bytes c.push_line.new.text) _ c.deref.result.now
    c.new-text.ensures.bytes c.in_ok-push_line.ensures c.in_ok-walk.ensures c.deref.ensures.value

pub loop-walk-preserved : goal.loop-walk-preserved
loop-walk-preserved c =
    line_written _ (string_bytes c.loop-walk.text) (string_bytes c.push_line-in-Some.new.text) c.last_name.result.now _ c.in-Some.node.now _ _ c.in_ok-push_line-2.ensures c.last_name.ensures.name (took_node _ _ c.in-Some.node _ _ c.in_ok-level.ensures c.in-Some.is)
    c.loop-walk.invariant
