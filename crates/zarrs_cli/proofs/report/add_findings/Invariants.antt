use Rattle.std.proofs.Common.{◌≡◌, ◌++◌, map, take}
use Rattle.zarrs_cli.specs.Report.{remark_of}
use Rattle.zarrs_cli.proofs.report.add_findings.Given as goal

abbrev pub invariant-loop-finding : goal.invariant-loop-finding
invariant-loop-finding l = l.remarks.items ≡ l.initial.remarks.items ++ map remark_of (take l.finding-index l.findings)
