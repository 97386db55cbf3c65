use Rattle.std.proofs.Common.{◌≡◌, ◌++◌, ◌&&◌, not, false, is_none, codes, option_map, string_bytes, refl, subst, sym, ap, ◌∙◌}
use Rattle.std.proofs.lemmas.Result.{on_ok_weaker}
use Rattle.serde_json.specs.Data.{boolean, object}
use Rattle.zarrs_form.specs.Layouts.{IsWhole, row_in}
use Rattle.zarrs_form.proofs.ExtensionTexts.{ended, extension_whole}
use Rattle.zarrs_form.proofs.TextLaws.{and_false, refusal_written}
use Rattle.zarrs_form.proofs.extension.MetadataV3Form.write.Goals as goal
use Rattle.zarrs_form.proofs.extension.MetadataV3Form.write.Goals.{else-is_none-via-then-is_none+else-self, else-is_none-via-else-is_none}

pub returns : goal.returns
returns c = record {
  ok =
      let m = c.args.self.now in
      let n = c.args.layout in
      let start = string_bytes c.push_str.new.self in
      let first = string_bytes c.write_row.new.out in
      let second = string_bytes c.write_row-2.new.out in
      let other =
      elim c.else-is_none.branch as (λ _. (is_none m.configuration && m.must_understand) ≡ false) [
        | else-is_none-via-then-is_none+else-self w ↦ and_false (is_none m.configuration) m.must_understand w.if-self.false
        | else-is_none-via-else-is_none w ↦ ap (λ b. not b && m.must_understand) (c.is_none.ensures ∙ ap not w.if-is_none.false)
      ] in
      on_ok_weaker c.write_last.result (λ last whole.
      let p = extension_whole m n other whole in
      let told = subst (λ ms. IsWhole (option_map object ms) → first ≡ start ++ row_in n (codes "configuration") (option_map object ms)) c.as_ref-configuration.ensures.value c.in_ok-write_row.ensures.ok p.0 in
      let refused = subst (λ b. IsWhole (option_map boolean b) → second ≡ first ++ row_in n (codes "must_understand") (option_map boolean b)) c.refusal.ensures c.in_ok-write_row-2.ensures.ok
      (subst IsWhole (sym (refusal_written m.must_understand)) p.1.0) ∙ ap (λ o. first ++ row_in n (codes "must_understand") o) (refusal_written m.must_understand) in
      ended m n other _ start first second _ c.in_ok-push_str.ensures.bytes told refused (last refl)) c.write_last.ensures.ok;
}
