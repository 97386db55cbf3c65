use Rattle.std.proofs.Common.{ap, sym, ◌∙◌, codes}
use Rattle.serde_json.specs.Data.{object}
use Rattle.serde_json.specs.View.{members_view}
use Rattle.zarrs_form.specs.Fields.{field_data}
use Rattle.zarrs_form.proofs.FieldLaws.{besides_left}
use Rattle.zarrs_form.proofs.fields.with_must_understand.Goals as goal

pub returns-then-must_understand-clause-ok : goal.returns-then-must_understand-clause-ok
returns-then-must_understand-clause-ok c =
    ap object (besides_left (codes "must_understand") c.args.members.entries c.remove.new.self.entries c.remove.ensures.entries c.remove.ensures.updates.1)
    ∙ ap (field_data (object (members_view c.args.members.entries))) (sym c.if-must_understand.true)
