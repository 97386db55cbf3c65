use Rattle.std.proofs.Common.{◌≡◌, Err, rules}
use Rattle.zarrs_cli.specs.StepsOfConsolidations.{IsPlanFaultOfSome}
use Rattle.zarrs_cli.specs.declared.fault.ZarrsFault.TheVariants.{Consolidate}
use Rattle.zarrs_cli.proofs.Consolidations.{told_of_some, unplanned_of_some}
use Rattle.zarrs_cli.proofs.Runs.{err_given}
use Rattle.zarrs_cli.proofs.consolidate.planned.Goals as goal

pub returns-in_err-plan-clause-err : goal.returns-in_err-plan-clause-err
returns-in_err-plan-clause-err g c =
    let is : c.from_residual.result ≡ Err (Consolidate c.in_err-plan.field-0.0) = search rules in
    err_given (IsPlanFaultOfSome c.args.options c.args.base.now) c.from_residual.result (Consolidate c.in_err-plan.field-0.0) is
    (unplanned_of_some c.args.options c.args.base.now c.task_of.result c.task_of.ensures c.in_err-plan.field-0.0 c.in_err-plan.ensures.some_refused)

pub returns-clause-ok : goal.returns-clause-ok
returns-clause-ok g c = told_of_some c.args.options c.args.base.now c.task_of.result c.task_of.ensures c.in_ok-plan.plan c.in_ok-line.line c.in_ok-line.ensures c.in_ok-plan.ensures.some
