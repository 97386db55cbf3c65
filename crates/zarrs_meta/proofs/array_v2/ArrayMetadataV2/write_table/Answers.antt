use Rattle.std.proofs.Common.{◌≡◌, ◌∷◌, [], ◌++◌, codes, string_bytes, ap, refl, sym, ◌∙◌, subst}
use Rattle.std.proofs.lemmas.Result.{on_ok_weaker}
use Rattle.serde_json.specs.Data.{member, object, no_members}
use Rattle.serde_json.specs.Written.{members_have_float}
use Rattle.zarrs_form.specs.Documents.{is_empty}
use Rattle.zarrs_form.specs.Forms.{number_data, list_data, nullable_data, put_rows, unless}
use Rattle.zarrs_form.specs.FormsV2.{codec_data, data_type_data, order_data, separator_data}
use Rattle.zarrs_form.specs.Layouts.{IsWhole, row_in}
use Rattle.zarrs_meta.specs.ArrayV2.{array_v2_rows}
use Rattle.zarrs_form.proofs.TableTexts.{rows_whole, table_written}
use Rattle.zarrs_form.proofs.RowLaws.{◌◂◌}
use Rattle.zarrs_form.proofs.TextLaws.{array_v2_table, array_v2_sorted}
use Rattle.zarrs_meta.proofs.array_v2.ArrayMetadataV2.write_table.Goals as goal

-- each row that was appended, in the order of the names
pub returns : goal.returns
returns c = record {
  ok =
      let m = c.args.self.now in
      let n = c.args.layout in
      let shape = list_data number_data m.shape in
      let chunks = list_data number_data m.chunks in
      let compressor = nullable_data codec_data m.compressor in
      let filters = nullable_data (list_data codec_data) m.filters in
      let attributes = unless (is_empty m.attributes) (object m.attributes) in
      let table = array_v2_table shape chunks (data_type_data m.dtype) m.fill_value (order_data m.order) compressor filters (separator_data m.dimension_separator) attributes in
      let sorted = array_v2_sorted shape chunks (data_type_data m.dtype) m.fill_value (order_data m.order) compressor filters (separator_data m.dimension_separator) attributes in
      let o0 = string_bytes c.push_str.new.self in
      let o1 = string_bytes c.write_unless.new.out in
      let o2 = string_bytes c.write_row.new.out in
      let o3 = string_bytes c.write_row-2.new.out in
      let o4 = string_bytes c.write_row-3.new.out in
      let o5 = string_bytes c.write_row-4.new.out in
      let o6 = string_bytes c.write_row-5.new.out in
      let o7 = string_bytes c.write_row-6.new.out in
      let o8 = string_bytes c.write_row-7.new.out in
      let o9 = string_bytes c.write_row-8.new.out in
      on_ok_weaker c.write_last.result (λ last whole.
      let p = rows_whole table (member (codes "zarr_format") (number_data 2) no_members) (ap members_have_float (sym sorted) ∙ whole) in
      table_written n table (codes "zarr_format") (number_data 2) (put_rows (array_v2_rows m) no_members) (string_bytes c.args.out.now) o0 (string_bytes c.write_last.new.out)
      (o1 ∷ o2 ∷ o3 ∷ o4 ∷ o5 ∷ o6 ∷ o7 ∷ o8 ∷ o9 ∷ [])
      c.in_ok-push_str.ensures.bytes
      (subst (λ b. IsWhole (unless b (object m.attributes)) → o1 ≡ o0 ++ row_in n (codes "attributes") (unless b (object m.attributes))) c.is_empty-empty.ensures c.in_ok-write_unless.ensures.ok p.0
      ◂ c.in_ok-write_row.ensures.ok p.1.0
      ◂ c.in_ok-write_row-2.ensures.ok p.1.1.0
      ◂ c.in_ok-write_row-3.ensures.ok p.1.1.1.0
      ◂ c.in_ok-write_row-4.ensures.ok p.1.1.1.1.0
      ◂ c.in_ok-write_row-5.ensures.ok p.1.1.1.1.1.0
      ◂ c.in_ok-write_row-6.ensures.ok p.1.1.1.1.1.1.0
      ◂ c.in_ok-write_row-7.ensures.ok p.1.1.1.1.1.1.1.0
      ◂ c.in_ok-write_row-8.ensures.ok p.1.1.1.1.1.1.1.1.0
      ◂ tt)
      (last refl) sorted) c.write_last.ensures.ok;
}
