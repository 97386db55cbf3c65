use Rattle.std.proofs.Common.{◌∙◌}
use Rattle.zarrs_cli.specs.RefusalLines.{IsNowhereIn}
use Rattle.zarrs_cli.proofs.Runs.{said_at}
use Rattle.zarrs_cli.proofs.answers.no_node_hint.Goals as goal

pub returns-in-Ok : goal.returns-in-Ok
returns-in-Ok g c = said_at (IsNowhereIn c.args.command.now.source.now) _ _ c.nowhere.result (c.as_str.ensures.value ∙ c.in-Ok.ensures) c.nowhere.ensures
