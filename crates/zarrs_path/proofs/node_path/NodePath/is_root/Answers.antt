use Rattle.std.proofs.Common.{sym, ◌∙◌, ap, [], ◌∷◌}
use Rattle.std.proofs.lemmas.Slice.Eq.{bytes_eq-Decides}
use Rattle.zarrs_path.specs.Paths.{path_text}
use Rattle.zarrs_path.proofs.PathTexts.{root_from_text}
use Rattle.zarrs_path.proofs.node_path.NodePath.is_root.Goals as goal

pub returns : goal.returns
returns c =
    let decides = bytes_eq-Decides c.as_str.result.now (47 ∷ []) in (
      λ h. root_from_text c.args.self.now c.as_str.ensures.valid (sym c.as_str.ensures.value ∙ decides.0 (sym c.eq.ensures ∙ h)),
      λ e. c.eq.ensures ∙ decides.1 (c.as_str.ensures.value ∙ ap path_text e),
    )
