use Rattle.std.proofs.Common.{◌∙◌, ◌∷◌, [], ◌++◌, ap, lit<, string_bytes}
use Rattle.zarrs_tool.proofs.printed.pretty_line.Goals as goal

pub returns : goal.returns
returns c = record {
  layout = λ whole.
      ap (λ v. v.items) c.into_bytes.ensures.value
      ∙ c.in_ok-push.ensures.bytes ∙ ap (λ t. string_bytes c.in_ok-text.text ++ t) (c.in_ok-push.ensures.ascii (lit< tt))
      ∙ ap (λ s. s ++ 10 ∷ []) (c.in_ok-text.ensures.layout whole);
}
