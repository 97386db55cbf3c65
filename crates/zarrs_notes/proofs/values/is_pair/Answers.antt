use Rattle.std.proofs.Common.{arith, map}
use Rattle.std.proofs.lemmas.List.{length-map}
use Rattle.serde_json.specs.View.{view}
use Rattle.zarrs_notes.proofs.Pairs.{too_few, too_many}
use Rattle.zarrs_notes.proofs.values.is_pair.Goals as goal

pub returns-in_default : goal.returns-in_default
returns-in_default c = too_few c.args.digits (map view c.args.items.now) (let n = length-map c.args.items.now view in let m = c.in_default.len_below in omega (arith, n, m))

pub returns-in_default-2 : goal.returns-in_default-2
returns-in_default-2 c = too_many c.args.digits (map view c.args.items.now) (let n = length-map c.args.items.now view in let m = c.in_default.len_at_least in omega (arith, n, m))
