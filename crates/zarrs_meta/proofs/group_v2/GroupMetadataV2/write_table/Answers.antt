use Rattle.std.proofs.Common.{◌≡◌, ◌∷◌, [], ◌++◌, codes, string_bytes, ap, refl, sym, ◌∙◌, subst}
use Rattle.std.proofs.lemmas.Result.{on_ok_weaker}
use Rattle.serde_json.specs.Data.{member, object, no_members}
use Rattle.serde_json.specs.Written.{members_have_float}
use Rattle.zarrs_form.specs.Documents.{is_empty}
use Rattle.zarrs_form.specs.Forms.{number_data, put_rows, unless}
use Rattle.zarrs_form.specs.Layouts.{IsWhole, row_in}
use Rattle.zarrs_meta.specs.GroupV2.{group_v2_rows}
use Rattle.zarrs_form.proofs.TableTexts.{rows_whole, table_written}
use Rattle.zarrs_form.proofs.RowLaws.{◌◂◌}
use Rattle.zarrs_form.proofs.TextLaws.{group_v2_sorted}
use Rattle.zarrs_meta.proofs.group_v2.GroupMetadataV2.write_table.Goals as goal

-- each row that was appended, in the order of the names
pub returns : goal.returns
returns c = record {
  ok =
      let m = c.args.self.now in
      let n = c.args.layout in
      let attributes = unless (is_empty m.attributes) (object m.attributes) in
      let table = (codes "attributes", attributes) ∷ [] in
      let sorted = group_v2_sorted attributes in
      let o0 = string_bytes c.push_str.new.self in
      let o1 = string_bytes c.write_unless.new.out in
      on_ok_weaker c.write_last.result (λ last whole.
      let p = rows_whole table (member (codes "zarr_format") (number_data 2) no_members) (ap members_have_float (sym sorted) ∙ whole) in
      table_written n table (codes "zarr_format") (number_data 2) (put_rows (group_v2_rows m) no_members) (string_bytes c.args.out.now) o0 (string_bytes c.write_last.new.out)
      (o1 ∷ [])
      c.in_ok-push_str.ensures.bytes
      (subst (λ b. IsWhole (unless b (object m.attributes)) → o1 ≡ o0 ++ row_in n (codes "attributes") (unless b (object m.attributes))) c.is_empty-empty.ensures c.in_ok-write_unless.ensures.ok p.0
      ◂ tt)
      (last refl) sorted) c.write_last.ensures.ok;
}
