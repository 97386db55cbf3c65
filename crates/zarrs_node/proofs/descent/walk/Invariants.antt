use Rattle.std.proofs.Common.{◌≡◌, [], IsFalse}
use Rattle.zarrs_node.proofs.walk.WalkEnds.{ahead}
use Rattle.zarrs_node.proofs.walk.SinkSteps.{HasFed}
use Rattle.zarrs_node.proofs.descent.walk.Given as goal

-- with each prefix that is read fewer beginnings of keys are ahead
abbrev pub decreases-loop-prefix : goal.decreases-loop-prefix
decreases-loop-prefix g l = ahead (g.S.Store.contents l.storage) l.pending.items

abbrev pub invariant-loop-prefix : goal.invariant-loop-prefix
invariant-loop-prefix g l =
    HasFed g.K.NodeSink.takes (g.S.Store.contents l.storage) l.version l.recursive l.path l.fn.sink l.sink l.ignored.items l.notes.faults.items l.pending.items
    × (l.notes.goes_on ≡ l.fn.notes.goes_on)
    × (IsFalse l.fn.notes.goes_on → l.notes.faults.items ≡ [])
