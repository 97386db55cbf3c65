use Rattle.std.proofs.Common.{◌≡◌, Err, rules}
use Rattle.zarrs_tool.specs.declared.fault.ToolFault.TheVariants.{Node}
use Rattle.zarrs_tool.proofs.Runs.{path_fault_result, word_output, word_fault_result}
use Rattle.zarrs_tool.proofs.run.output.Goals as goal

pub returns-in_err-base-clause-err : goal.returns-in_err-base-clause-err
returns-in_err-base-clause-err g c =
    let is : c.from_residual.result ≡ Err (Node c.in_err-base.field-0.0) = search rules in
    path_fault_result _ c.args.command.now _ _ c.in_err-base.field-0.0 is c.in_err-base.ensures.err

pub returns-clause-ok : goal.returns-clause-ok
returns-clause-ok g c =
    word_output (g.S.Store.can_fail c.args.store.now) c.args.command.now _ c.in_ok-base.base c.in_ok-base.ensures.ok.0 c.in_ok-base.ensures.ok.1
    c.output_of.result c.output_of.ensures.ok

pub returns-clause-err : goal.returns-clause-err
returns-clause-err g c =
    word_fault_result (g.S.Store.can_fail c.args.store.now) c.args.command.now _ c.in_ok-base.base c.in_ok-base.ensures.ok.0 c.in_ok-base.ensures.ok.1
    c.output_of.result c.output_of.ensures.err
