use Rattle.std.proofs.Common.{[], ◌∷◌, ◌++◌, ap, sym, ◌∙◌}
use Rattle.std.proofs.lemmas.Grind.{flat_map-append}
use Rattle.zarrs_examples.specs.MapsOfNodes.{keys_beside, version_2_keys}
use Rattle.zarrs_examples.proofs.ConvertedNodes.{next}
use Rattle.zarrs_examples.proofs.converter.version_2_keys.Goals as goal

pub loop-path-preserved : goal.loop-path-preserved
loop-path-preserved c =
    c.in_ok-push_keys.ensures ∙ ap (λ l. l ++ version_2_keys c.loop-path-item.result.0) c.loop-path.invariant
    ∙ sym (flat_map-append (λ e. version_2_keys e.0) _ (c.loop-path-item.result ∷ [])) ∙ ap keys_beside (sym (next c.args.nodes.now c.loop-path.path-index c.loop-path-item.result c.loop-path-item.is c.loop-path-test.true))
