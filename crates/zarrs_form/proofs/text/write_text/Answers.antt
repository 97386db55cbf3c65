use Rattle.std.proofs.Common.{◌∷◌, [], ◌++◌, string_bytes, ap, sym, ◌∙◌, append_assoc}
use Rattle.std.specs.List.{list_any}
use Rattle.zarrs_form.specs.StepsOfTexts.{has_escape}
use Rattle.zarrs_form.proofs.AttributeLaws.{not_true}
use Rattle.zarrs_form.proofs.TextLaws.{on_ok_pushed, quoted_bare}
use Rattle.zarrs_form.proofs.text.write_text.Goals as goal

pub returns-then-is_bare : goal.returns-then-is_bare
returns-then-is_bare c = record {
  ok =
      let text = c.args.text.now in
      let old = string_bytes c.args.out.now in
      let bare = quoted_bare text (not_true (list_any has_escape text) (sym c.is_bare.ensures ∙ c.if-is_bare.true)) in
      let opened = c.in_ok-push_str.ensures.bytes in
      let told = c.in_ok-push_str-2.ensures.bytes in
      on_ok_pushed c.push_str-then-is_bare-2.result _ _ (34 ∷ []) _ c.push_str-then-is_bare-2.ensures.bytes
      (ap (λ s. s ++ 34 ∷ []) (told ∙ ap (λ s. s ++ text) opened ∙ append_assoc old (34 ∷ []) text) ∙ append_assoc old (34 ∷ text) (34 ∷ []) ∙ ap (λ s. old ++ s) (sym bare));
}
