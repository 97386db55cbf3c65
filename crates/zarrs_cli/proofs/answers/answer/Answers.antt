use Rattle.std.proofs.Common.{arith}
use Rattle.std.specs.Option.{option_map}
use Rattle.std.specs.Prelude.{string_bytes}
use Rattle.zarrs_program.specs.Words.{texts}
use Rattle.zarrs_cli.proofs.Runs.{answered_run, refused_run, run_statuses, usage_run}
use Rattle.zarrs_cli.proofs.answers.answer.Goals as goal

pub returns-clause-done : goal.returns-clause-done
returns-clause-done g c = λ zero.
    answered_run (texts c.args.words.now) _ _ _ c.run_words-outcome.result c.finish.result.status 0 (λ two. omega (arith, two)) c.finish.ensures.status zero c.run_words-outcome.ensures.ok

pub returns-clause-found : goal.returns-clause-found
returns-clause-found g c = λ one.
    answered_run (texts c.args.words.now) _ _ _ c.run_words-outcome.result c.finish.result.status 1 (λ two. omega (arith, two)) c.finish.ensures.status one c.run_words-outcome.ensures.ok

pub returns-clause-status : goal.returns-clause-status
returns-clause-status g c = run_statuses c.run_words-outcome.result c.finish.result.status c.finish.ensures.status

pub returns-clause-refused : goal.returns-clause-refused
returns-clause-refused g c = λ two.
    refused_run (texts c.args.words.now) c.run_words-outcome.result _ _ c.finish.result.status (option_map string_bytes c.hint-hint.result) c.finish.result.said _ _
    c.finish.ensures.status two c.run_words-outcome.ensures.refused c.run_words-outcome.ensures.silent c.hint-hint.ensures c.finish.ensures.said

pub returns-clause-usage : goal.returns-clause-usage
returns-clause-usage g c = usage_run (texts c.args.words.now) _ _ _ c.run_words-outcome.result c.finish.result.status c.finish.ensures.status c.run_words-outcome.ensures.ok
