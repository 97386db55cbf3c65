use Rattle.std.proofs.Common.{sym, ◌∙◌}
use Rattle.zarrs_check.proofs.SurveyFaults.{base_excused}
use Rattle.zarrs_check.proofs.base.base_of.Goals as goal

pub returns-in-Err-2-clause-excused : goal.returns-in-Err-2-clause-excused
returns-in-Err-2-clause-excused g c =
    base_excused (g.S.Store.can_fail c.args.storage.now) (g.S.Store.contents c.args.storage.now) c.args.version.now c.args.path.now c.in-Err.refusal c.in-Err.ensures.refused (sym c.is_of_node.ensures ∙ c.if-is_of_node.false)
