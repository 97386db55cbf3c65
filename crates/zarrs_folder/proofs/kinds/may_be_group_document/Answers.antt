use Rattle.std.proofs.Common.{sym, ◌∙◌}
use Rattle.zarrs_folder.proofs.GroupDocuments.{none_by, not_a_document, not_a_group}
use Rattle.zarrs_folder.proofs.kinds.may_be_group_document.Goals as goal

pub returns-else-is_some : goal.returns-else-is_some
returns-else-is_some c none =
    not_a_group c.args.bytes.now c.in-Ok.text.now c.in-Ok.ensures.cases.0
    (none_by _ _ c.find.result (sym c.is_some.ensures ∙ c.if-is_some.false) c.find.ensures.cases)
    (none_by _ _ c.find-else-is_some.result (sym c.is_some-else-is_some.ensures ∙ none) c.find-else-is_some.ensures.cases)

pub returns-in-Err : goal.returns-in-Err
returns-in-Err c none = not_a_document c.args.bytes.now c.in-Err.ensures.cases.0
