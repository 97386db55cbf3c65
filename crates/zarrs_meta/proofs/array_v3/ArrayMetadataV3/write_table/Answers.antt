use Rattle.std.proofs.Common.{◌≡◌, ◌∷◌, [], ◌++◌, Some, codes, option_map, string_bytes, ap, refl, sym, ◌∙◌, subst}
use Rattle.std.proofs.lemmas.Result.{on_ok_weaker}
use Rattle.serde_json.specs.Data.{member, object, string, no_members}
use Rattle.serde_json.specs.Written.{members_have_float}
use Rattle.zarrs_form.specs.Documents.{is_empty}
use Rattle.zarrs_form.specs.Forms.{number_data, list_data, nullable_data, extension_data, put_rows, unless, is_nil}
use Rattle.zarrs_form.specs.Layouts.{IsWhole, row_in}
use Rattle.zarrs_meta.specs.ArrayV3.{array_v3_rows}
use Rattle.zarrs_form.proofs.TableTexts.{rows_whole, table_written}
use Rattle.zarrs_form.proofs.RowLaws.{◌◂◌}
use Rattle.zarrs_form.proofs.TextLaws.{array_v3_table, array_v3_sorted}
use Rattle.zarrs_meta.proofs.array_v3.ArrayMetadataV3.write_table.Goals as goal

-- each row that was appended, in the order of the names
pub returns : goal.returns
returns c = record {
  ok =
      let m = c.args.self.now in
      let n = c.args.layout in
      let shape = list_data number_data m.shape in
      let codecs = list_data extension_data m.codecs in
      let attributes = unless (is_empty m.attributes) (object m.attributes) in
      let transformers = unless (is_nil m.storage_transformers) (list_data extension_data m.storage_transformers) in
      let names = option_map (list_data (nullable_data string)) m.dimension_names in
      let table = array_v3_table shape (extension_data m.data_type) (extension_data m.chunk_grid) (extension_data m.chunk_key_encoding) m.fill_value codecs attributes transformers names in
      let sorted = array_v3_sorted shape (extension_data m.data_type) (extension_data m.chunk_grid) (extension_data m.chunk_key_encoding) m.fill_value codecs attributes transformers names in
      let o0 = string_bytes c.push_str.new.self in
      let o1 = string_bytes c.write_unless.new.out in
      let o2 = string_bytes c.write_row.new.out in
      let o3 = string_bytes c.write_row-2.new.out in
      let o4 = string_bytes c.write_row-3.new.out in
      let o5 = string_bytes c.write_row-4.new.out in
      let o6 = string_bytes c.write_row-5.new.out in
      let o7 = string_bytes c.write_row-6.new.out in
      let o8 = string_bytes c.write_row-7.new.out in
      let o9 = string_bytes c.write_row-8.new.out in
      let o10 = string_bytes c.write_unless-2.new.out in
      on_ok_weaker c.write_last.result (λ last whole.
      let p = rows_whole table (member (codes "zarr_format") (number_data 3) no_members) (ap members_have_float (sym sorted) ∙ whole) in
      table_written n table (codes "zarr_format") (number_data 3) (put_rows (array_v3_rows m) no_members) (string_bytes c.args.out.now) o0 (string_bytes c.write_last.new.out)
      (o1 ∷ o2 ∷ o3 ∷ o4 ∷ o5 ∷ o6 ∷ o7 ∷ o8 ∷ o9 ∷ o10 ∷ [])
      c.in_ok-push_str.ensures.bytes
      (subst (λ b. IsWhole (unless b (object m.attributes)) → o1 ≡ o0 ++ row_in n (codes "attributes") (unless b (object m.attributes))) c.is_empty-empty.ensures c.in_ok-write_unless.ensures.ok p.0
      ◂ c.in_ok-write_row.ensures.ok p.1.0
      ◂ c.in_ok-write_row-2.ensures.ok p.1.1.0
      ◂ c.in_ok-write_row-3.ensures.ok p.1.1.1.0
      ◂ c.in_ok-write_row-4.ensures.ok p.1.1.1.1.0
      ◂ subst (λ ns. IsWhole (option_map (list_data (nullable_data string)) ns) → o6 ≡ o5 ++ row_in n (codes "dimension_names") (option_map (list_data (nullable_data string)) ns)) c.as_ref-names.ensures.value c.in_ok-write_row-5.ensures.ok p.1.1.1.1.1.0
      ◂ c.in_ok-write_row-6.ensures.ok p.1.1.1.1.1.1.0
      ◂ (c.in_ok-write_row-7.ensures.ok refl ∙ ap (λ k. o7 ++ row_in n (codes "node_type") (Some (string k))) c.in_ok-kind.ensures)
      ◂ c.in_ok-write_row-8.ensures.ok p.1.1.1.1.1.1.1.1.0
      ◂ subst (λ b. IsWhole (unless b (list_data extension_data m.storage_transformers)) → o10 ≡ o9 ++ row_in n (codes "storage_transformers") (unless b (list_data extension_data m.storage_transformers))) c.is_empty-empty-2.ensures c.in_ok-write_unless-2.ensures.ok p.1.1.1.1.1.1.1.1.1.0
      ◂ tt)
      (last refl) sorted) c.write_last.ensures.ok;
}
