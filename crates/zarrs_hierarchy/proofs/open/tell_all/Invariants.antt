use Rattle.zarrs_node.specs.Sinks.{TakesAll}
use Rattle.zarrs_hierarchy.proofs.open.tell_all.Given as goal

abbrev pub invariant-loop-path : goal.invariant-loop-path
invariant-loop-path g l = TakesAll g.K.NodeSink.takes l.initial.sink l.yielded l.sink
