use Rattle.std.proofs.Common.{arith}
use Rattle.zarrs_node.proofs.Sizes.{weights_first}
use Rattle.zarrs_node.proofs.node.put_first.Goals as goal

pub returns-in-Ok-clause-weights : goal.returns-in-Ok-clause-weights
returns-in-Ok-clause-weights c =
    let n = c.push.new.self.ok.0 in
    let m = c.in-Ok.ensures.len in
    let k = c.len-end.ensures in
    weights_first c.args.nodes.now.items c.push.new.self.items c.swap.new.self.items c.args.node 0 c.len-end.result c.in-Ok.ensures.items (omega (arith, n, m, k)) (omega (arith, n, m, k)) c.swap.ensures.items
