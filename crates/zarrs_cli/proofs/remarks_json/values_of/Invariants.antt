use Rattle.std.proofs.Common.{◌≡◌, map}
use Rattle.serde_json.specs.View.{view}
use Rattle.zarrs_cli.specs.Json.{remark_data}
use Rattle.zarrs_cli.proofs.remarks_json.values_of.Given as goal

abbrev pub invariant-loop-remark : goal.invariant-loop-remark
invariant-loop-remark l = map view l.values.items ≡ map remark_data l.yielded
