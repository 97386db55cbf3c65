use Rattle.std.proofs.lemmas.Result.{on_ok_weaker}
use Rattle.zarrs_check.proofs.UnderWay.{pair_passed}
use Rattle.zarrs_check.proofs.comparison.Comparison.tell_pair.Goals as goal

pub returns : goal.returns
returns c = on_ok_weaker c.tell_entry.result (pair_passed c.args.self.now c.tell_entry.new.self c.args.entry c.args.metadata.now c.pair_kind-kind.result c.pair_kind-kind.ensures) c.tell_entry.ensures
