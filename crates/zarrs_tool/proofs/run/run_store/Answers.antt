use Rattle.zarrs_tool.proofs.Runs.{worded_output}
use Rattle.zarrs_tool.proofs.run.run_store.Goals as goal

pub returns-clause-ok : goal.returns-clause-ok
returns-clause-ok g c = worded_output c.in_ok-command.command _ _ _ _ c.run_command.result c.in_ok-command.ensures.ok c.run_command.ensures.ok
