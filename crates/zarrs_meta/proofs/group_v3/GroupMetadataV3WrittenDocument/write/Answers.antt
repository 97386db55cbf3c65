use Rattle.std.proofs.Common.{◌++◌, string_bytes, ap, sym, ◌∙◌}
use Rattle.std.proofs.lemmas.Result.{on_ok_weaker}
use Rattle.serde_json.specs.Data.{object}
use Rattle.serde_json.specs.Written.{has_float}
use Rattle.zarrs_form.specs.Forms.{put_rows}
use Rattle.zarrs_form.specs.Layouts.{text_in}
use Rattle.zarrs_form.proofs.TextLaws.{none_there}
use Rattle.zarrs_meta.specs.GroupV3.{group_v3_rows}
use Rattle.zarrs_meta.proofs.group_v3.GroupMetadataV3WrittenDocument.write.Goals as goal

pub returns-then-is_empty : goal.returns-then-is_empty
returns-then-is_empty c = record {
  ok =
      let m = c.args.self.now in
      let none = none_there m.additional_fields (sym c.is_empty.ensures ∙ c.if-is_empty.true) in
      on_ok_weaker c.write_table.result (λ is whole.
      is (ap (λ ms. has_float (object (put_rows (group_v3_rows m) ms))) none ∙ whole)
      ∙ ap (λ ms. string_bytes c.args.out.now ++ text_in c.args.layout (object (put_rows (group_v3_rows m) ms))) none) c.write_table.ensures.ok;
}
