use Rattle.zarrs_node.proofs.Sizes.{left_over}
use Rattle.zarrs_node.proofs.node.Node.+drop.Given as goal

abbrev pub decreases-loop-next : goal.decreases-loop-next
decreases-loop-next l = left_over l.node l.others.items
