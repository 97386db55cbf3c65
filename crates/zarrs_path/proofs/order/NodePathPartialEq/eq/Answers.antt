use Rattle.std.proofs.Common.{◌≡◌, sym, ap, ◌∙◌}
use Rattle.std.specs.Bool.{Decides, one_answer}
use Rattle.std.proofs.lemmas.Slice.Eq.{bytes_eq-Decides}
use Rattle.zarrs_store.specs.Segments.{segments_of}
use Rattle.zarrs_path.specs.Paths.{path_text, path_eq}
use Rattle.zarrs_path.specs.PathOrder.{path_decides}
use Rattle.zarrs_path.proofs.PathTexts.{segments_of-path_text}
use Rattle.zarrs_path.proofs.order.NodePathPartialEq.eq.Goals as goal

pub returns : goal.returns
returns c =
    let texts = bytes_eq-Decides c.as_str.result.now c.as_str-2.result.now in
    let one : Decides c.eq.result (c.args.self.now ≡ c.args.other.now) = (
      λ h.
          let same : path_text c.args.self.now ≡ path_text c.args.other.now = sym c.as_str.ensures.value ∙ (texts.0 (sym c.eq.ensures ∙ h) ∙ c.as_str-2.ensures.value) in
          sym (segments_of-path_text c.args.self.now c.as_str.ensures.valid) ∙ (ap segments_of same ∙ segments_of-path_text c.args.other.now c.as_str-2.ensures.valid),
      λ e. c.eq.ensures ∙ texts.1 (c.as_str.ensures.value ∙ (ap path_text e ∙ sym c.as_str-2.ensures.value)),
    ) in
    one_answer c.eq.result (path_eq c.args.self.now c.args.other.now) one (path_decides c.args.self.now c.args.other.now)
