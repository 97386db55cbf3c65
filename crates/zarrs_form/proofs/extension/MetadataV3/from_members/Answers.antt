use Rattle.std.proofs.Common.{◌≡◌, Some, None, true, codes, rules, sym, ap, ◌∙◌, refl, option_and_then, option_map}
use Rattle.serde_json.specs.Find.{get_member, as_object, as_bool, as_str}
use Rattle.serde_json.specs.View.{view, members_view}
use Rattle.zarrs_form.specs.Forms.{nullable, unless_absent}
use Rattle.zarrs_form.proofs.MemberLaws.{get_left, get_left_twice}
use Rattle.zarrs_form.proofs.extension.MetadataV3.from_members.Goals as goal

pub returns : goal.returns
returns c =
    let ms = members_view c.args.members.entries in
    let name : option_and_then as_str (get_member (codes "name") ms) ≡ Some c.in-Some-2.name =
    ap (option_and_then as_str) (sym c.take_member.ensures.found ∙ ap (option_map view) c.in-Some.is) ∙ sym c.in_ok-name.ensures ∙ c.in-Some-2.is in
    let found : get_member (codes "configuration") (members_view c.take_member.new.members.entries) ≡ get_member (codes "configuration") ms = get_left (codes "name") (codes "configuration") ms _ c.take_member.ensures.left refl in
    let configuration : unless_absent None (nullable as_object) (get_member (codes "configuration") ms) ≡ Some c.in-Some-3.configuration = search (rules, found) in
    let found_2 : get_member (codes "must_understand") (members_view c.take_member-found.new.members.entries) ≡ get_member (codes "must_understand") ms =
    get_left_twice (codes "name") (codes "configuration") (codes "must_understand") ms _ _ c.take_member.ensures.left c.take_member-found.ensures.left refl refl in
    let must_understand : unless_absent true as_bool (get_member (codes "must_understand") ms) ≡ Some c.in-Some-4.must_understand = search (rules, found_2) in
    rw (name, configuration, must_understand) refl
