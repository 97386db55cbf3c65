use Rattle.std.proofs.Common.{◌∙◌, sym, ap}
use Rattle.zarrs_store.specs.Segments.{segments_of}
use Rattle.zarrs_path.proofs.PathTexts.{cut_path_text, segments_from_names}
use Rattle.zarrs_path.proofs.node_path.NodePath.from_valid_prefix.Goals as goal

pub invariant_of-result : goal.invariant_of-result
invariant_of-result c = record { path = c.args.prefix; valid = c.requires; text = sym c.in_ok-text.ensures.ok }

pub returns : goal.returns
returns c = ap segments_of c.in_ok-text.ensures.ok ∙ cut_path_text c.args.prefix (segments_from_names c.args.prefix c.requires)
