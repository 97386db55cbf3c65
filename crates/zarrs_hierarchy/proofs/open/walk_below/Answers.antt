use Rattle.std.proofs.Common.{true, sym, subst}
use Rattle.std.specs.Prelude.{IfOk}
use Rattle.zarrs_block.specs.Policy.{as_choice}
use Rattle.zarrs_node.specs.Nodes.{Nodes}
use Rattle.zarrs_hierarchy.specs.OpeningHierarchies.{PairsChosen}
use Rattle.zarrs_hierarchy.specs.StepsOfHierarchies.{TakesPairs}
use Rattle.zarrs_hierarchy.proofs.OpenedPairs.{answer_told}
use Rattle.zarrs_hierarchy.proofs.open.walk_below.Goals as goal

pub returns-in_ok-tell_all-in-Some-clause-takes : goal.returns-in_ok-tell_all-in-Some-clause-takes
returns-in_ok-tell_all-in-Some-clause-takes g c =
    let s = g.S.Store.contents c.args.storage.now in
    subst (λ o. TakesPairs g.K.NodeSink.takes c.args.sink.now c.tell_all.new.sink (PairsChosen s c.args.version.now (as_choice o) c.args.path.now)) (sym c.in-Some.is)
    (record {
      nodes = c.in_ok-entries-in-Some.entries.items;
      lists = c.in_ok-entries-in-Some.ensures.entries;
      ordered = c.in_ok-entries-in-Some.ensures.ascending;
      took = c.in_ok-tell_all-in-Some.ensures;
    })

pub returns-in-None-clause-takes : goal.returns-in-None-clause-takes
returns-in-None-clause-takes g c =
    let s = g.S.Store.contents c.args.storage.now in
    subst (λ o. IfOk c.walk_nodes.result (λ _. TakesPairs g.K.NodeSink.takes c.args.sink.now c.walk_nodes.new.sink (PairsChosen s c.args.version.now (as_choice o) c.args.path.now))) (sym c.in-None.is)
    (answer_told g.K.NodeSink.takes (Nodes s c.args.version.now true c.args.path.now) c.args.path.now _ _ c.walk_nodes.result c.walk_nodes.ensures.takes)
