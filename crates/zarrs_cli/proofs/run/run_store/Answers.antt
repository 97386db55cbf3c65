use Rattle.std.proofs.Common.{◌≡◌, Err, rules}
use Rattle.zarrs_cli.specs.Refusals.{RefusesRun}
use Rattle.zarrs_cli.proofs.Runs.{err_given, unwritten}
use Rattle.zarrs_cli.proofs.run.run_store.Goals as goal

pub returns-in_err-write_output-clause-refused : goal.returns-in_err-write_output-clause-refused
returns-in_err-write_output-clause-refused g c =
    let is : c.from_residual-in_err-write_output.result ≡ Err c.in_err-write_output.field-0.0 = search rules in
    err_given (RefusesRun (g.S.Store.can_fail c.args.store.now) c.args.word c.args.path.now (g.S.Store.contents c.args.store.now)) c.from_residual-in_err-write_output.result
    c.in_err-write_output.field-0.0 is
    (unwritten _ _ _ _ c.in_ok-made.made.0 _ c.in_err-write_output.field-0.0 (c.in_ok-base.base, c.in_ok-base.ensures.ok.0, c.in_ok-base.ensures.ok.1, c.in_ok-made.ensures.ok) c.in_err-write_output.ensures.err)
