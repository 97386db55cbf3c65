use Rattle.std.proofs.Common.{◌≡◌, map, replicate}
use Rattle.serde_json.specs.View.{view}
use Rattle.zarrs_convert.specs.FillValues.{zero_value}
use Rattle.zarrs_convert.proofs.fill_value.zeros.Given as goal

abbrev pub invariant-loop : goal.invariant-loop
invariant-loop l = map view l.items.items ≡ replicate l.counter zero_value
