use Rattle.zarrs_node.specs.Nodes.{MeansNode}
use Rattle.zarrs_node.proofs.walk.SinkSteps.{ascending_pairs, built_shows}
use Rattle.zarrs_node.proofs.listing.list_nodes.Goals as goal

pub build_ascending-requires : goal.build_ascending-requires
build_ascending-requires g c = ascending_pairs _ _ _ _ c.in_ok-ignored.ensures.takes c.new-pairs.ensures.items

pub returns-clause-shows : goal.returns-clause-shows
returns-clause-shows g c =
    built_shows _ _ _ (MeansNode (g.S.Store.contents c.args.storage.now) c.args.version.now) c.args.recursive c.in_ok-ignored.ensures.takes c.new-pairs.ensures.items _ c.in_ok-nodes.ensures.shows
