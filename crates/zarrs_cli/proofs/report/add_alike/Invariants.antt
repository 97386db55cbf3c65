use Rattle.std.proofs.Common.{◌≡◌, ◌++◌, map, take}
use Rattle.zarrs_cli.specs.Report.{alike_remark}
use Rattle.zarrs_cli.proofs.report.add_alike.Given as goal

abbrev pub invariant-loop-path : goal.invariant-loop-path
invariant-loop-path l = l.remarks.items ≡ l.initial.remarks.items ++ map alike_remark (take l.path-index l.alike)
