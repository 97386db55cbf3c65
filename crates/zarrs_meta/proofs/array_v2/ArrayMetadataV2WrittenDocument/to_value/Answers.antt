use Rattle.std.proofs.Common.{refl, ap, ◌∙◌}
use Rattle.serde_json.specs.Data.{object}
use Rattle.serde_json.proofs.Views.{view-Object}
use Rattle.zarrs_meta.proofs.array_v2.ArrayMetadataV2WrittenDocument.to_value.Goals as goal

pub returns : goal.returns
returns c =
    view-Object c.put_unless.new.members ∙ ap object
    (rw (
      c.in_ok-put_unless.ensures.ok,
      c.is_empty-bare.ensures,
      c.in_ok-put_member-8.ensures.ok,
      c.in_ok-put_member-7.ensures.ok,
      c.in_ok-put_member-6.ensures.ok,
      c.in_ok-put_member-5.ensures.ok,
      c.in_ok-put_member-4.ensures.ok,
      c.in_ok-put_member-3.ensures.ok,
      c.in_ok-put_member-2.ensures.ok,
      c.in_ok-put_member.ensures.ok,
      c.in_ok-put.ensures.ok,
      c.from.ensures,
      c.in_ok-all.ensures,
    ) refl)
