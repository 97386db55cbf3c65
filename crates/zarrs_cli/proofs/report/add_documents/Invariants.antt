use Rattle.std.proofs.Common.{◌≡◌, ◌++◌, drop}
use Rattle.zarrs_cli.specs.StepsOfReports.{document_remarks}
use Rattle.zarrs_cli.proofs.report.add_documents.Given as goal

abbrev pub invariant-loop-path : goal.invariant-loop-path
invariant-loop-path l =
    l.remarks.items ++ document_remarks (drop l.path-index l.checked.bad_documents) l.counts ≡ l.initial.remarks.items ++ document_remarks l.checked.bad_documents l.checked.hidden.items
