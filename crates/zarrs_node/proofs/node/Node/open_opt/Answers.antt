use Rattle.std.proofs.Common.{rules, sym, subst, ◌∙◌}
use Rattle.zarrs_node.specs.Forest.{below_of, ArePlacedBelow}
use Rattle.zarrs_node.proofs.OpenedNodes.{refused_below, chosen_placed}
use Rattle.zarrs_node.proofs.node.Node.open_opt.Goals as goal

pub returns-in_err-below-clause-refused : goal.returns-in_err-below-clause-refused
returns-in_err-below-clause-refused g c =
    let refused = refused_below (g.S.Store.contents c.args.storage.now) c.args.version.now c.args.config.now.use_consolidated c.in_ok-path.path (g.S.Store.can_fail c.args.storage.now) c.args.path.now
    c.in_ok-path.ensures.valid c.in_ok-path.ensures.text c.in_ok-metadata.metadata c.in_err-below.field-0.0 c.in_ok-metadata.ensures.ok (sym c.is_group.ensures ∙ c.if-not-is_group.false) c.in_err-below.ensures.refused in
    search (rules, refused)

pub returns-clause-placed : goal.returns-clause-placed
returns-clause-placed g c =
    let p = c.in_ok-path.path in
    let made = c.new_with_metadata-2 in
    subst (λ q. ArePlacedBelow q (below_of made.result)) (sym made.ensures.path) (subst (ArePlacedBelow p) (sym made.ensures.children) (chosen_placed _ _ _ p _ c.in_ok-below.ensures.shows))
