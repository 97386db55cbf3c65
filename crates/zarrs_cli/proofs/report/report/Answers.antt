use Rattle.zarrs_cli.proofs.report.report.Goals as goal

pub returns-clause-ok : goal.returns-clause-ok
returns-clause-ok g c = c.in_ok-made.ensures (g.S.Store.contents c.args.store.now) c.in_ok-checked.ensures.ok
