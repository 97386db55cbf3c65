use Rattle.std.proofs.Common.{◌≡◌, ◌++◌, map, take}
use Rattle.zarrs_cli.specs.StepsOfReports.{name_remark}
use Rattle.zarrs_cli.proofs.report.add_names.Given as goal

abbrev pub invariant-loop-name : goal.invariant-loop-name
invariant-loop-name l = l.remarks.items ≡ l.initial.remarks.items ++ map name_remark (take l.name-index l.names)
