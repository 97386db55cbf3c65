use Rattle.std.proofs.Common.{◌∙◌, ap, option_map, string_bytes}
use Rattle.serde_json.specs.Data.{put}
use Rattle.serde_json.specs.Find.{get_member}
use Rattle.serde_json.specs.View.{view, members_view}
use Rattle.serde_json.proofs.Views.{members_view-insert_entry, view-lookup}
use Rattle.zarrs_form.proofs.MemberLists.{if_ok_then, on_err_then, on_ok_then}
use Rattle.zarrs_form.proofs.shapes.Object.insert.Goals as goal

pub returns-clause-before : goal.returns-clause-before
returns-clause-before c = if_ok_then c.put_entry.result c.put_entry.ensures.before (λ before is.
    ap (option_map view) is ∙ view-lookup (string_bytes c.args.name) c.self.inside.entries.items ∙ ap (get_member (string_bytes c.args.name)) c.self.view_is)

pub returns-clause-ok : goal.returns-clause-ok
returns-clause-ok c = on_ok_then c.put_entry.result c.put_entry.ensures.ok (λ is.
    ap members_view is ∙ members_view-insert_entry c.self.inside.entries.items c.args.name c.args.value ∙ ap (put (string_bytes c.args.name) (view c.args.value)) c.self.view_is)

pub returns-clause-unchanged : goal.returns-clause-unchanged
returns-clause-unchanged c = on_err_then c.put_entry.result c.put_entry.ensures.unchanged (λ is. ap members_view is ∙ c.self.view_is)
