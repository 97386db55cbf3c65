use Rattle.std.proofs.Common.{◌≡◌, Err, rules}
use Rattle.zarrs_tool.specs.declared.fault.ToolFault.TheVariants.{Write}
use Rattle.zarrs_tool.proofs.Runs.{written_whole, unwritten_result}
use Rattle.zarrs_tool.proofs.run.run_command.Goals as goal

pub returns-clause-ok : goal.returns-clause-ok
returns-clause-ok g c = written_whole _ _ _ _ _ _ c.in_ok-text.ensures.ok c.deref.ensures.value c.in_ok-write_whole.ensures.ok

pub returns-in_err-write_whole-clause-refused : goal.returns-in_err-write_whole-clause-refused
returns-in_err-write_whole-clause-refused g c =
    let is : c.from_residual-in_err-write_whole.result ≡ Err Write = search rules in
    unwritten_result _ _ _ _ c.from_residual-in_err-write_whole.result c.in_ok-text.ensures.ok is
