use Rattle.zarrs_tool.proofs.Lines.{told_lines}
use Rattle.zarrs_tool.proofs.run.listing.Goals as goal

pub returns-clause-ok : goal.returns-clause-ok
returns-clause-ok g c =
    told_lines (g.S.Store.contents c.args.store.now) c.args.recursive c.args.base.now _ _ c.in_ok-ignored.ensures.takes c.new.ensures.items c.in_ok-ignored.ensures.clean
