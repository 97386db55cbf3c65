use Rattle.std.proofs.Common.{◌∙◌, ap, refl, []}
use Rattle.zarrs_store.specs.Segments.{segments_of}
use Rattle.zarrs_path.proofs.PathTexts.{segments_of-path_text}
use Rattle.zarrs_path.proofs.node_path.NodePath.root.Goals as goal

pub returns-clause-ok : goal.returns-clause-ok
returns-clause-ok c = ap segments_of c.in_ok-from_str.ensures.ok ∙ segments_of-path_text [] refl
