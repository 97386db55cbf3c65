use Rattle.std.proofs.Common.{◌≡◌, ◌++◌, map, take}
use Rattle.zarrs_cli.specs.Report.{orphan_remark}
use Rattle.zarrs_cli.proofs.report.add_orphans.Given as goal

abbrev pub invariant-loop-path : goal.invariant-loop-path
invariant-loop-path l = l.remarks.items ≡ l.initial.remarks.items ++ map orphan_remark (take l.path-index l.orphans)
