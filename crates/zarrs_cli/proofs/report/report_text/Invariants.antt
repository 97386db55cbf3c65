use Rattle.std.proofs.Common.{◌≡◌, string_bytes}
use Rattle.zarrs_cli.specs.Report.{report_text}
use Rattle.zarrs_cli.proofs.report.report_text.Given as goal

abbrev pub invariant-loop-remark : goal.invariant-loop-remark
invariant-loop-remark l = string_bytes l.text ≡ report_text l.yielded
