use Rattle.std.proofs.Common.{◌≡◌, ◌++◌, map, take}
use Rattle.zarrs_cli.specs.Report.{told_remark}
use Rattle.zarrs_cli.proofs.report.add_told.Given as goal

abbrev pub invariant-loop-path : goal.invariant-loop-path
invariant-loop-path l = l.remarks.items ≡ l.initial.remarks.items ++ map told_remark (take l.path-index l.told)
