use Rattle.std.proofs.Common.{◌∷◌, [], ◌∙◌, ap, sym}
use Rattle.serde_json.specs.Find.{get_member}
use Rattle.zarrs_form.specs.Documents.{besides}
use Rattle.zarrs_form.proofs.MemberLists.{lookup-members_of, members_by_itself}
use Rattle.zarrs_form.proofs.SortedLaws.{members_left}
use Rattle.zarrs_form.proofs.fields.AdditionalFieldsV3.remove.Goals as goal

pub returns-clause-found : goal.returns-clause-found
returns-clause-found c = c.take_entry.ensures.found ∙ lookup-members_of c.args.name.now c.self.inside.entries.items ∙ ap (get_member c.args.name.now) c.self.view_is

pub returns-clause-left : goal.returns-clause-left
returns-clause-left c =
    sym (members_by_itself _) ∙ members_left (λ d. d) c.args.name.now c.self.inside.entries.items _ c.self.invariant c.take_entry.ensures.left
    ∙ ap (besides (c.args.name.now ∷ [])) (members_by_itself c.self.inside.entries.items ∙ c.self.view_is)
