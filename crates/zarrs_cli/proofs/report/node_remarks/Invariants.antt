use Rattle.std.proofs.Common.{◌≡◌, take}
use Rattle.zarrs_cli.specs.StepsOfReports.{node_remarks}
use Rattle.zarrs_cli.proofs.report.node_remarks.Given as goal

abbrev pub invariant-loop-finding : goal.invariant-loop-finding
invariant-loop-finding l = l.remarks.items ≡ node_remarks l.path (take l.finding-index l.found)
