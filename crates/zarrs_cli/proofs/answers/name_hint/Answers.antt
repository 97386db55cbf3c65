use Rattle.std.proofs.Common.{◌∙◌}
use Rattle.zarrs_cli.specs.RefusalLines.{IsNameHint}
use Rattle.zarrs_cli.proofs.Runs.{said_at}
use Rattle.zarrs_cli.proofs.answers.name_hint.Goals as goal

pub returns-in-Ok : goal.returns-in-Ok
returns-in-Ok c = said_at (λ path. IsNameHint c.args.command.now.request path c.args.fault.now) _ _ c.name_hint_at.result (c.as_str.ensures.value ∙ c.in-Ok.ensures) c.name_hint_at.ensures
