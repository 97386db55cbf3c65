use Rattle.std.proofs.Common.{map, inl, refl}
use Rattle.std.proofs.lemmas.Result.{err_from_is_err_and}
use Rattle.zarrs_meaning.specs.declared.node_create_error.NodeCreateError.TheVariants.{OutOfMemory}
use Rattle.zarrs_group.proofs.Together.{pair_of, are_children}
use Rattle.zarrs_group.proofs.group.Group.child_groups.Goals as goal

pub returns-in_ok-groups_among-in-Ok-clause-groups : goal.returns-in_ok-groups_among-in-Ok-clause-groups
returns-in_ok-groups_among-in-Ok-clause-groups g c =
    let ns = c.in-Ok.nodes.items in
    (map pair_of ns, are_children (g.S.Store.contents c.args.storage.now) c.args.self.now c.args.config.now ns c.in-Ok.ensures.shows, c.in_ok-groups_among-in-Ok.ensures)

pub returns-in_err-groups_among-in-Ok-clause-refused : goal.returns-in_err-groups_among-in-Ok-clause-refused
returns-in_err-groups_among-in-Ok-clause-refused g c = let p = err_from_is_err_and c.from_residual.result c.from_residual.ensures.1 in rw (p.1, p.2) (OutOfMemory, inl tt, refl)

pub returns-in-Err-clause-refused : goal.returns-in-Err-clause-refused
returns-in-Err-clause-refused g c = (c.in-Err.error, c.in-Err.ensures.refused, c.from_node_error.ensures)
