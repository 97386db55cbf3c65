use Rattle.std.proofs.Common.{◌∙◌, sym, map, not}
use Rattle.zarrs_meta.specs.Node.{is_group}
use Rattle.zarrs_group.proofs.Together.{pair_of, are_children, kind_of_pairs}
use Rattle.zarrs_group.proofs.group.Group.child_array_paths.Goals as goal

pub returns-clause-paths : goal.returns-clause-paths
returns-clause-paths g c =
    let ns = c.in_ok-nodes.nodes.items in
    (map pair_of ns, are_children (g.S.Store.contents c.args.storage.now) c.args.self.now c.args.config.now ns c.in_ok-nodes.ensures.shows, c.in_ok-array_paths_of.ensures ∙ sym (kind_of_pairs (λ m. not (is_group m)) ns))
