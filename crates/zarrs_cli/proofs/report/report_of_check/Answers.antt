use Rattle.std.proofs.Common.{subst, ap, ◌∙◌, ◌++◌, map}
use Rattle.zarrs_cli.specs.Report.{remark_of, tally_of}
use Rattle.zarrs_cli.specs.StepsOfReports.{AreSorted, asked_of, remarks_from}
use Rattle.zarrs_cli.proofs.ToldRemarks.{report_is}
use Rattle.zarrs_cli.proofs.report.report_of_check.Goals as goal

pub returns : goal.returns
returns c = λ s checked.
    let from = remarks_from c.args.base.now c.args.checked.now.from in
    let whole = c.in_ok-add_findings.ensures
    ∙ (ap (λ rs. rs ++ map remark_of c.deref.result.now) c.in_ok-nodes.ensures.remarks ∙ ap (λ fs. from ++ map remark_of fs) c.deref.ensures.value) in
    report_is s c.args.base.now c.args.checked.now checked c.args.options
    c.arrange.new.remarks.items _ _ (subst (λ rs. AreSorted (asked_of c.args.options rs) c.arrange.new.remarks.items) whole c.in_ok-arrange.ensures)
    (c.in_ok-made.ensures.tally ∙ ap (λ n. tally_of c.args.options n c.arrange.new.remarks.items) c.in_ok-nodes.ensures.nodes)
    c.in_ok-made.ensures.text
