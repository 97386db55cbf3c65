use Rattle.std.proofs.Common.{◌≡◌, ◌∙◌, Err, rules}
use Rattle.zarrs_cli.specs.Refusals.{RefusesRequest}
use Rattle.zarrs_cli.specs.Words.{with_leading_slash}
use Rattle.zarrs_cli.specs.declared.fault.ZarrsFault.TheVariants.{OutOfMemory}
use Rattle.zarrs_cli.proofs.Runs.{err_given, memory_refused, refused_at, written_at}
use Rattle.zarrs_cli.proofs.answers.run_command.Goals as goal

pub returns-in_err-path-clause-refused : goal.returns-in_err-path-clause-refused
returns-in_err-path-clause-refused g c =
    let is : c.from_residual.result ≡ Err OutOfMemory = search rules in
    err_given (RefusesRequest c.args.command.now.request c.args.command.now.source.now (with_leading_slash c.args.command.now.path.now) (g.I.Read.remaining c.args.reader.now) (g.I.Read.remaining c.args.reader.now))
    c.from_residual.result OutOfMemory is (memory_refused c.args.command.now.request _ _ _ _)

pub returns-clause-ok : goal.returns-clause-ok
returns-clause-ok g c = written_at c.args.command.now.request _ _ _ _ _ _ c.run_request.result (c.as_str.ensures.value ∙ c.in_ok-path.ensures) c.run_request.ensures.ok

pub returns-clause-refused : goal.returns-clause-refused
returns-clause-refused g c = refused_at c.args.command.now.request _ _ _ _ _ c.run_request.result (c.as_str.ensures.value ∙ c.in_ok-path.ensures) c.run_request.ensures.refused
