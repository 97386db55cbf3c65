use Rattle.zarrs_cli.specs.StepsOfReports.{name_remark}
use Rattle.zarrs_cli.proofs.ToldRemarks.{told_next}
use Rattle.zarrs_cli.proofs.report.add_names.Goals as goal

pub loop-name-preserved : goal.loop-name-preserved
loop-name-preserved c = told_next name_remark c.args.names.now c.loop-name.name-index _ _ _ _ _ c.loop-name-test.true c.name-item.is c.in_ok-name_remark.ensures c.in_ok-push.ensures.items c.loop-name.invariant
