use Rattle.std.proofs.Common.{◌≡◌, false, Some, ap, codes, sym, rules, ◌∙◌}
use Rattle.zarrs_form.specs.Fields.{field_data}
use Rattle.zarrs_block.specs.Policy.{as_block}
use Rattle.zarrs_block.specs.Block.{inline_block}
use Rattle.zarrs_group.specs.FullBlocks.{fields_with_full}
use Rattle.zarrs_group.proofs.PutAgain.{put_in_place}
use Rattle.zarrs_group.proofs.group_value.members_with_block.Goals as goal

pub returns : goal.returns
returns c =
    let is : fields_with_full (as_block c.args.block) c.args.fields ≡ fields_with_full (Some c.in-Some.block.metadata) c.args.fields = search rules in
    put_in_place (codes "consolidated_metadata") c.in_ok-null.null _ _ c.args.fields c.put_block.new.fields _ _ c.in_ok-put_block.ensures.ok c.in_ok-members.ensures
    (c.into_value-value.ensures ∙ (c.in_ok-new.ensures.ok ∙ ap (λ d. field_data d false) (c.in_ok-tree.ensures ∙ ap inline_block c.in_ok-documents.ensures))) c.in_ok-put.ensures.ok
    ∙ sym is
