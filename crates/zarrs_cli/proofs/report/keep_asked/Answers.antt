use Rattle.std.proofs.Common.{false, rules}
use Rattle.std.proofs.lemmas.List.Elements.{filter_from_retain}
use Rattle.zarrs_cli.specs.Report.{is_asked}
use Rattle.zarrs_cli.proofs.Order.{all_asked, findings_asked}
use Rattle.zarrs_cli.proofs.report.keep_asked.Goals as goal

pub returns-then-notes : goal.returns-then-notes
returns-then-notes c = all_asked c.args.notes c.args.remarks.now.items c.if-notes.true

pub returns : goal.returns
returns c = findings_asked c.args.notes c.args.remarks.now.items _ c.if-notes.false (filter_from_retain _ (is_asked false) (λ f x b q k. search rules) _ _ _ c.retain.ensures.filtered)
