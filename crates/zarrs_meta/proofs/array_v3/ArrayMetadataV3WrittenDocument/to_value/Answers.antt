use Rattle.std.proofs.Common.{◌≡◌, Option, Some, None, Bor, option_map, refl, ap, ◌∙◌}
use Rattle.serde_json.specs.Data.{Data, object, string}
use Rattle.serde_json.proofs.Views.{view-Object}
use Rattle.zarrs_form.specs.Forms.{list_data, nullable_data}
use Rattle.zarrs_meta.proofs.array_v3.ArrayMetadataV3WrittenDocument.to_value.Goals as goal

behind : {A : Type 0} (f : A → Data) (o : Option (Bor A)) → option_map (λ x. f x.now) o ≡ option_map f (option_map (λ x. x.now) o)
behind f None = refl
behind f (Some x) = refl

pub returns : goal.returns
returns c =
    view-Object c.put_member-7.new.members ∙ ap object
    (rw (
      c.in_ok-put_member-7.ensures.ok,
      behind (list_data (nullable_data string)) c.as_ref.result,
      c.as_ref.ensures.value,
      c.in_ok-put_unless-2.ensures.ok,
      c.is_empty-bare-2.ensures,
      c.in_ok-put_unless.ensures.ok,
      c.is_empty-bare.ensures,
      c.in_ok-put_member-6.ensures.ok,
      c.in_ok-put_member-5.ensures.ok,
      c.in_ok-put_member-4.ensures.ok,
      c.in_ok-put_member-3.ensures.ok,
      c.in_ok-put_member-2.ensures.ok,
      c.in_ok-put_member.ensures.ok,
      c.in_ok-put_text.ensures.ok,
      c.in_ok-put.ensures.ok,
      c.from.ensures,
      c.in_ok-all.ensures,
    ) refl)
