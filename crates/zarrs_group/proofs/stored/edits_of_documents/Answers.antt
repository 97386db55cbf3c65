use Rattle.std.proofs.Common.{◌≡◌, ◌∙◌, ap, subst}
use Rattle.serde_json.specs.Data.{no_members}
use Rattle.serde_json.specs.View.{view}
use Rattle.zarrs_meta.specs.GroupV2.{group_v2_tree}
use Rattle.zarrs_meta.specs.Node.{group_without_attributes}
use Rattle.zarrs_group.specs.Edits.{set}
use Rattle.zarrs_group.specs.StoredTexts.{IsStoredText}
use Rattle.zarrs_group.proofs.stored.edits_of_documents.Goals as goal

pub returns : goal.returns
returns c =
    let none : c.new.result ≡ no_members = c.new.ensures in
    let tree : view c.in_ok-to_value.field-0 ≡ group_v2_tree (group_without_attributes c.args.group) =
    c.in_ok-to_value.ensures ∙ ap (λ a. group_v2_tree (record { attributes = a; additional_fields = c.args.group.additional_fields })) none in
    let text : IsStoredText c.in_ok-bytes.bytes.items (group_v2_tree (group_without_attributes c.args.group)) = subst (IsStoredText c.in_ok-bytes.bytes.items) tree c.in_ok-bytes.ensures in
    (c.in_ok-attributes.ensures, ((c.in_ok-bytes.bytes.items, ap (λ k. set k c.in_ok-bytes.bytes.items) c.in_ok-key.ensures, text), tt))
