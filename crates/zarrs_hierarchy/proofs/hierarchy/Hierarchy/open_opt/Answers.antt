use Rattle.zarrs_hierarchy.proofs.OpenedPairs.{kept_opened}
use Rattle.zarrs_hierarchy.proofs.hierarchy.Hierarchy.open_opt.Goals as goal

pub returns-clause-opened : goal.returns-clause-opened
returns-clause-opened g c =
    kept_opened (g.S.Store.contents c.args.storage.now) c.args.version.now c.args.config.now.use_consolidated c.in_ok-path.path c.args.path.now _ _ c.new-nodes.ensures.items
    c.in_ok-path.ensures.text c.in_ok-ignored.ensures.takes

pub invariant_of-result : goal.invariant_of-result
invariant_of-result g c =
    let opened =
    kept_opened (g.S.Store.contents c.args.storage.now) c.args.version.now c.args.config.now.use_consolidated c.in_ok-path.path c.args.path.now _ _ c.new-nodes.ensures.items
    c.in_ok-path.ensures.text c.in_ok-ignored.ensures.takes in
    opened.holds.ordered
