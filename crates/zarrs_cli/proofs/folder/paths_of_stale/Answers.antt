use Rattle.std.proofs.Common.{rules, ap, ◌∙◌, map}
use Rattle.std.proofs.lemmas.List.Elements.{filter_from_retain}
use Rattle.zarrs_cli.specs.StepsOfRuns.{is_stale}
use Rattle.zarrs_cli.proofs.folder.paths_of_stale.Goals as goal

pub returns : goal.returns
returns c = c.in_ok-paths.ensures ∙ ap (map (λ f. f.path)) (filter_from_retain _ (λ f. is_stale f.kind) (λ f x b q k. search rules) _ _ _ c.retain.ensures.filtered)
