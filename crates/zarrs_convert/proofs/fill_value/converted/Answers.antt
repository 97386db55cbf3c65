use Rattle.std.proofs.Common.{sym, ◌∙◌}
use Rattle.serde_json.specs.View.{view}
use Rattle.zarrs_convert.proofs.FillLines.{null_is}
use Rattle.zarrs_convert.proofs.fill_value.converted.Goals as goal

pub returns-then-is_null : goal.returns-then-is_null
returns-then-is_null c = rw (null_is (view c.args.value.now) (sym c.is_null.ensures ∙ c.if-is_null.true)) c.default_value.ensures
