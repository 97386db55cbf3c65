use Rattle.std.proofs.Common.{◌∙◌, ap, string_bytes}
use Rattle.serde_json.specs.Data.{put}
use Rattle.serde_json.specs.Find.{get_member}
use Rattle.serde_json.specs.View.{members_of}
use Rattle.zarrs_form.proofs.MemberLists.{if_ok_then, lookup-members_of, members_of-insert_entry, on_err_then, on_ok_then}
use Rattle.zarrs_form.proofs.fields.AdditionalFieldsV3.insert.Goals as goal

pub returns-clause-before : goal.returns-clause-before
returns-clause-before c = if_ok_then c.put_entry.result c.put_entry.ensures.before (λ before is.
    is ∙ lookup-members_of (string_bytes c.args.name) c.self.inside.entries.items ∙ ap (get_member (string_bytes c.args.name)) c.self.view_is)

pub returns-clause-ok : goal.returns-clause-ok
returns-clause-ok c = on_ok_then c.put_entry.result c.put_entry.ensures.ok (λ is.
    ap members_of is ∙ members_of-insert_entry c.self.inside.entries.items c.args.name c.args.field ∙ ap (put (string_bytes c.args.name) c.args.field) c.self.view_is)

pub returns-clause-unchanged : goal.returns-clause-unchanged
returns-clause-unchanged c = on_err_then c.put_entry.result c.put_entry.ensures.unchanged (λ is. ap members_of is ∙ c.self.view_is)
