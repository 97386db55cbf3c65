use Rattle.std.proofs.Common.{◌≡◌, Err, rules}
use Rattle.std.specs.FinMap as map
use Rattle.zarrs_store.specs.Segments.{key_cmp}
use Rattle.zarrs_tool.proofs.Runs.{refused_result, refused_load_result, written_result, is_command, not_usage, usage_of_none}
use Rattle.zarrs_tool.proofs.run.run_image.Goals as goal

pub returns-in_err-store-clause-usage : goal.returns-in_err-store-clause-usage
returns-in_err-store-clause-usage g c =
    let is : c.from_residual-in_err-store.result ≡ Err c.in_err-store.field-0.0 = search rules in
    not_usage _ _ _ _ c.in_err-store.field-0.0 (is_command c.in_ok-command.command _ c.in_ok-command.ensures.ok) is c.in_err-store.ensures.err

pub returns-in_err-store-clause-refused : goal.returns-in_err-store-clause-refused
returns-in_err-store-clause-refused g c =
    let is : c.from_residual-in_err-store.result ≡ Err c.in_err-store.field-0.0 = search rules in
    refused_load_result _ _ _ _ c.in_err-store.field-0.0 is c.in_err-store.ensures.err

pub returns-clause-ok : goal.returns-clause-ok
returns-clause-ok g c =
    written_result c.in_ok-command.command _ _ (map.from_entries {R = key_cmp} c.in_ok-store.store) _ _ c.run_command-outcome.result c.in_ok-command.ensures.ok c.in_ok-store.ensures.ok c.run_command-outcome.ensures.ok

pub returns-clause-usage : goal.returns-clause-usage
returns-clause-usage g c = usage_of_none c.in_ok-command.command _ c.run_command-outcome.result c.in_ok-command.ensures.ok c.run_command-outcome.ensures.known

pub returns-clause-refused : goal.returns-clause-refused
returns-clause-refused g c =
    refused_result c.in_ok-command.command _ _ _ (map.from_entries {R = key_cmp} c.in_ok-store.store) c.run_command-outcome.result c.in_ok-command.ensures.ok
    c.in_ok-store.ensures.end c.in_ok-store.ensures.ok c.run_command-outcome.ensures.refused
