use Rattle.std.proofs.Common.{◌≡◌, IfOk, rules, subst}
use Rattle.zarrs_path.specs.Paths.{IsParent}
use Rattle.zarrs_path.specs.declared.node_path.NodePathError.TheVariants.{OutOfMemory}
use Rattle.zarrs_path.proofs.LawProofs.{refuses_for_memory, parent_of_extended}
use Rattle.zarrs_path.proofs.laws.parent_of_join.Goals as goal

pub returns-in_err-joined-clause-err : goal.returns-in_err-joined-clause-err
returns-in_err-joined-clause-err c = λ name.
    let memory : c.in_err-joined.field-0.0 ≡ OutOfMemory = refuses_for_memory c.args.name.now c.in_err-joined.field-0.0 name c.in_err-joined.ensures.err in
    search rules

pub returns-clause-ok : goal.returns-clause-ok
returns-clause-ok c = λ name. parent_of_extended c.args.path.now c.in_ok-joined.joined c.args.name.now c.parent.result name c.in_ok-joined.ensures.ok c.parent.ensures.ok

pub returns-clause-parent : goal.returns-clause-parent
returns-clause-parent c = subst (λ p. IfOk c.parent.result (IsParent p)) c.in_ok-joined.ensures.ok c.parent.ensures.ok
