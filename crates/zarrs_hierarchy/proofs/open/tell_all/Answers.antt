use Rattle.std.proofs.Common.{◌∷◌, [], refl}
use Rattle.zarrs_node.proofs.walk.SinkSteps.{took_more}
use Rattle.zarrs_hierarchy.proofs.open.tell_all.Goals as goal

pub loop-path-preserved : goal.loop-path-preserved
loop-path-preserved g c =
    took_more g.K.NodeSink.takes c.args.sink.now c.loop-path.yielded c.loop-path.sink ((c.in-Some.path, c.in-Some.metadata) ∷ []) c.take.new.self c.loop-path.invariant (c.take.new.self, c.in_ok-take.ensures, refl)
