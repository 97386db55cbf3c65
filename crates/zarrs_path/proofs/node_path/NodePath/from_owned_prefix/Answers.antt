use Rattle.std.proofs.Common.{◌∙◌, ap, subst, string_bytes}
use Rattle.zarrs_store.specs.Segments.{segments_of}
use Rattle.zarrs_store.proofs.Cuts.{segments_test}
use Rattle.zarrs_path.specs.Paths.{IsPathText}
use Rattle.zarrs_path.proofs.PathTexts.{cut_path_text, valid_of_text}
use Rattle.zarrs_path.proofs.node_path.NodePath.from_owned_prefix.Goals as goal

pub returns-then-validate-clause-ok : goal.returns-then-validate-clause-ok
returns-then-validate-clause-ok c =
    ap segments_of c.in_ok-text.ensures.ok ∙ cut_path_text c.args.prefix (segments_test c.args.prefix c.in_ok-text.ensures.segments)

pub returns-then-validate-clause-valid : goal.returns-then-validate-clause-valid
returns-then-validate-clause-valid c =
    valid_of_text (string_bytes c.in_ok-text.text) (subst IsPathText c.as_str.ensures.value (c.validate.ensures.0 c.if-validate.true))
