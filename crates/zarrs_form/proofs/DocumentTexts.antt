-- What is written of a tree without a fraction is its pretty layout.
use Rattle.std.proofs.Common.{◌∙◌, ap}
use Rattle.json.specs.Layout.{pretty}
use Rattle.serde_json.proofs.Texts.{tokens_from_order}
use Rattle.zarrs_form.specs.DocumentTexts.{WholeTextIsExact}

-- its tokens are those of the tree
pub whole_text_is_exact : WholeTextIsExact
whole_text_is_exact bytes d is whole = is.layout ∙ ap pretty (tokens_from_order bytes d is.order whole)
