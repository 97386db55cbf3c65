use Rattle.std.proofs.Common.{◌∙◌, sym, map}
use Rattle.zarrs_group.proofs.Together.{pair_of, are_children, paths_of_pairs}
use Rattle.zarrs_group.proofs.group.Group.child_paths.Goals as goal

pub returns-clause-paths : goal.returns-clause-paths
returns-clause-paths g c =
    let ns = c.in_ok-nodes.nodes.items in
    (map pair_of ns, are_children (g.S.Store.contents c.args.storage.now) c.args.self.now c.args.config.now ns c.in_ok-nodes.ensures.shows, c.in_ok-paths_of.ensures ∙ sym (paths_of_pairs ns))
